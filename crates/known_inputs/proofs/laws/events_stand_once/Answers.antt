use Rattle.known_inputs.proofs.EventLemmas.{nothing_stands, reached_stands, stands_after}
use Rattle.known_inputs.proofs.laws.events_stand_once.Goals as goal

pub returns-clause-nothing : goal.returns-clause-nothing
returns-clause-nothing c = nothing_stands

pub returns-clause-reached : goal.returns-clause-reached
returns-clause-reached c = reached_stands

pub returns-clause-goes_on : goal.returns-clause-goes_on
returns-clause-goes_on c = stands_after
