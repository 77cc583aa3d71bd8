use Rattle.std.proofs.Common.{arith, ◌≡◌, ℕ, List, length, ◌∙◌}
use Rattle.net_reach.proofs.SetLemmas.{has_sorted, once_sorted, rising_once}
use Rattle.net_reach.proofs.place_set.PlaceSet.sort.Goals as goal

pub invariant_of-self : goal.invariant_of-self
invariant_of-self c =
    let old : List ℕ = c.self.inside.list.items in
    let new : List ℕ = c.sort_unstable.new.self.items in
    let was = c.self.invariant in
    let size = c.sort_unstable.ensures.len in
    let capacity = c.sort_unstable.ensures.capacity in
    let same : length old ≡ length new = omega arith in
    record {
      marked = λ p. was.marked p ∙ has_sorted old new c.sort_unstable.ensures.permutation p;
      once = once_sorted old new c.sort_unstable.ensures.permutation was.once;
      count = was.count ∙ same;
      room = let room = was.room in omega arith;
    }

pub returns-clause-rising : goal.returns-clause-rising
returns-clause-rising c = rising_once c.sort_unstable.new.self.items c.sort_unstable.ensures.sorted (once_sorted c.self.inside.list.items c.sort_unstable.new.self.items c.sort_unstable.ensures.permutation c.self.invariant.once)
