use Rattle.std.proofs.Common.{arith, ◌≡◌, ℕ, List, Bool, false, [], length, get_or, replicate, eqb, sym, ap, subst, ◌∙◌}
use Rattle.std.specs.List.{IsDistinct}
use Rattle.std.proofs.lemmas.List.{length-replicate}
use Rattle.net_reach.specs.Places.{has}
use Rattle.net_reach.proofs.SetLemmas.{marked, all_unmarked, none_marked, unmarked_at, nothing_twice}
use Rattle.net_reach.proofs.place_set.PlaceSet.new.Goals as goal

pub invariant_of-result : goal.invariant_of-result
invariant_of-result c =
    let marks : c.resize.new.self.items ≡ replicate c.args.bound false = all_unmarked c.args.bound _ c.new-marks.result.items c.resize.new.self.items c.new-marks.ensures.items c.new-marks.ensures.len c.in_ok-resize.ensures.items in
    let size = ap length marks ∙ length-replicate c.args.bound false in
    let none : c.in_ok-list.list.items ≡ [] = c.in_ok-list.ensures.items in
    let capacity = c.in_ok-list.ensures.capacity in
    record {
      marked = λ p. ap (λ (z : List Bool). get_or z p false) marks ∙ unmarked_at c.args.bound p ∙ sym (ap (λ (z : List ℕ). has z p) none);
      once = subst (IsDistinct eqb) (sym none) nothing_twice;
      count = ap marked marks ∙ none_marked c.args.bound ∙ sym (ap length none);
      room = omega arith;
    }
