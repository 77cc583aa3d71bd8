use Rattle.graph_wishes.proofs.MayLemmas.{mays_apart, mays_grounded}
use Rattle.graph_wishes.proofs.laws.mays_are_apart.Goals as goal

pub returns-clause-apart : goal.returns-clause-apart
returns-clause-apart c = mays_apart

pub returns-clause-grounded : goal.returns-clause-grounded
returns-clause-grounded c = mays_grounded
