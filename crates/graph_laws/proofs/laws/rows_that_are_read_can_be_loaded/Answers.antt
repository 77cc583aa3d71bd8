use Rattle.graph_laws.proofs.LoadLemmas.{can_load, can_load_alone, can_load_radios}
use Rattle.graph_laws.proofs.laws.rows_that_are_read_can_be_loaded.Goals as goal

pub returns : goal.returns
returns c = record { alone = can_load_alone; more = λ network wireless plain radio within. can_load network wireless within plain radio; radios = can_load_radios }
