use Rattle.graph_objects.proofs.FirstLemmas.{take_found, put_found}
use Rattle.graph_objects.proofs.laws.first_calls_are_found.Goals as goal

pub returns-clause-take : goal.returns-clause-take
returns-clause-take c = take_found

pub returns-clause-put : goal.returns-clause-put
returns-clause-put c = put_found
