use Rattle.net_reach.proofs.AlikeLemmas.{operator_state_alike, carrier_alike, opened_alike}
use Rattle.net_reach.proofs.laws.steps_that_reach_alike.Goals as goal

pub returns : goal.returns
returns c = record { operator_state = operator_state_alike; carrier = carrier_alike; opened = opened_alike }
