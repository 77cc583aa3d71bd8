use Rattle.std.proofs.Common.{arith, ◌≡◌, ◌++◌, ◌∷◌, [], ℕ, List, Bool, false, length, get_or, eqb, ap, subst, ◌∙◌}
use Rattle.std.specs.List.{IsDistinct}
use Rattle.std.proofs.lemmas.List.{length-set, length_push}
use Rattle.net_reach.specs.Places.{has}
use Rattle.net_reach.proofs.SetLemmas.{once_less, marked_less, popped_within, count_less}
use Rattle.net_reach.proofs.place_set.PlaceSet.clear.Goals as goal

pub index_mut-requires : goal.index_mut-requires
index_mut-requires c =
    let marks : List Bool = c.loop-place.self-inside.marks.items in
    let is = c.loop-place.invariant.kept.marked in
    let within = popped_within marks c.pop.new.self.items c.in-Some.place (λ p. is p ∙ ap (λ (z : List ℕ). has z p) c.in-Some.ensures.items) in
    omega arith

pub loop-place-preserved : goal.loop-place-preserved
loop-place-preserved c =
    let marks : List Bool = c.loop-place.self-inside.marks.items in
    let old : List ℕ = c.loop-place.self-inside.list.items in
    let left : List ℕ = c.pop.new.self.items in
    let place : ℕ = c.in-Some.place in
    let was = c.loop-place.invariant.kept in
    let items : old ≡ left ++ place ∷ [] = c.in-Some.ensures.items in
    let is : (p : ℕ) → get_or marks p false ≡ has (left ++ place ∷ []) p = λ p. was.marked p ∙ ap (λ (z : List ℕ). has z p) items in
    let once = once_less left place (subst (IsDistinct eqb) items was.once) in
    let fewer = count_less marks left place is in
    let size = ap length items ∙ length_push left place in
    let same = length-set marks place false in
    let capacity = c.in-Some.ensures.capacity in
    record {
      kept = record {
        marked = marked_less marks left place is once.1;
        once = once.0;
        count = let count = was.count in omega arith;
        room = let room = was.room in omega arith;
      };
      bound = same ∙ c.loop-place.invariant.bound;
    }
