use Rattle.graph_laws.proofs.UsedLemmas.{shares, wants, knows_loaded}
use Rattle.graph_laws.proofs.EdgeLemmas.{rows_named}
use Rattle.graph_laws.proofs.laws.used_names_are_shared.Goals as goal

pub returns : goal.returns
returns c = record { shares = λ facts s sound agrees knows. shares facts sound s agrees knows; wants = wants; loaded = knows_loaded; sound = rows_named }
