use Rattle.std.proofs.Common.{arith, ℕ, List, Bool, false, length, get_or, eqb, sym, ap, subst, ◌∙◌}
use Rattle.std.specs.List.{IsDistinct}
use Rattle.net_reach.specs.Places.{has}
use Rattle.net_reach.proofs.SetLemmas.{marked, nothing_twice}
use Rattle.net_reach.proofs.place_set.PlaceSet.empty.Goals as goal

pub invariant_of-result : goal.invariant_of-result
invariant_of-result c =
    let none = c.new.ensures.items in
    let marks = c.new-2.ensures.items in
    let size = ap length marks in
    record {
      marked = λ p. ap (λ (z : List Bool). get_or z p false) marks ∙ sym (ap (λ (z : List ℕ). has z p) none);
      once = subst (IsDistinct eqb) (sym none) nothing_twice;
      count = ap marked marks ∙ sym (ap length none);
      room = omega arith;
    }
