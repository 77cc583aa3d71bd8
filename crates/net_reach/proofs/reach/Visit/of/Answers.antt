use Rattle.std.proofs.Common.{ap}
use Rattle.net_reach.specs.Places.{Places}
use Rattle.net_reach.proofs.reach.Visit.of.Goals as goal

pub returns-clause-rows : goal.returns-clause-rows
returns-clause-rows c = ap (λ (s : Places). s.bound) c.in_ok-rows.ensures

pub returns-clause-interfaces : goal.returns-clause-interfaces
returns-clause-interfaces c = ap (λ (s : Places). s.bound) c.in_ok-touched.ensures
