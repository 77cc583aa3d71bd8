use Rattle.std.proofs.Common.{arith, ◌≡◌, ◌<◌, ℕ, List, Bool, true, false, length, get_or, eqb, suc, sym, ap, subst, ◌∙◌}
use Rattle.std.specs.List.{IsDistinct}
use Rattle.std.proofs.lemmas.List.{get_or_read, length-set, length_push}
use Rattle.net_reach.specs.Places.{has}
use Rattle.net_reach.proofs.SetLemmas.{room_for_one, marked_more, once_more, one_marked}
use Rattle.net_reach.proofs.place_set.PlaceSet.add.Goals as goal

pub push_reserved-requires : goal.push_reserved-requires
push_reserved-requires c =
    let marks : List Bool = c.self.inside.marks.items in
    let within : c.args.place < length marks = omega (arith, c.if-place-len.false) in
    let off : get_or marks c.args.place false ≡ false = sym (get_or_read marks c.args.place c.index.result.now within c.index.ensures false) ∙ c.if-index.false in
    let few = room_for_one marks c.args.place within off in
    let count = c.self.invariant.count in
    let room = c.self.invariant.room in
    omega arith

pub invariant_of-self : goal.invariant_of-self
invariant_of-self c =
    let marks : List Bool = c.self.inside.marks.items in
    let list : List ℕ = c.self.inside.list.items in
    let place : ℕ = c.args.place in
    let within : place < length marks = omega (arith, c.if-place-len.false) in
    let off : get_or marks place false ≡ false = sym (get_or_read marks place c.index.result.now within c.index.ensures false) ∙ c.if-index.false in
    let was = c.self.invariant in
    let same = length-set marks place true in
    let capacity = c.push_reserved.ensures.capacity in
    record {
      marked = λ p. marked_more marks list place was.marked within p ∙ sym (ap (λ (z : List ℕ). has z p) c.push_reserved.ensures.items);
      once = subst (IsDistinct eqb) (sym c.push_reserved.ensures.items) (once_more list place was.once (sym (was.marked place) ∙ off));
      count = one_marked marks place within off ∙ ap suc was.count ∙ sym (ap length c.push_reserved.ensures.items ∙ length_push list place ∙ omega arith);
      room = let room = was.room in omega arith;
    }
