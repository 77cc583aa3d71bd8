use Rattle.std.proofs.Common.{arith, ◌≤◌, length, subst}
use Rattle.net_reach.specs.Places.{Places}
use Rattle.net_reach.proofs.SetLemmas.{marked_within}
use Rattle.net_reach.proofs.place_set.PlaceSet.places.Goals as goal

pub returns-clause-few : goal.returns-clause-few
returns-clause-few c =
    let few = marked_within c.self.inside.marks.items in
    let count = c.self.invariant.count in
    subst (λ (s : Places). length s.list ≤ s.bound) c.self.view_is (omega arith)
