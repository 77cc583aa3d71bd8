use Rattle.known_inputs.proofs.FoundLemmas.{found_numbered, found_named}
use Rattle.known_inputs.proofs.laws.requests_are_found.Goals as goal

pub returns-clause-number : goal.returns-clause-number
returns-clause-number c = found_numbered

pub returns-clause-name : goal.returns-clause-name
returns-clause-name c = found_named
