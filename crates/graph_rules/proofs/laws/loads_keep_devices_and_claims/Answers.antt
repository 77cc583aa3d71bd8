use Rattle.graph_rules.proofs.KeepLemmas.{loads_keep}
use Rattle.graph_rules.proofs.laws.loads_keep_devices_and_claims.Goals as goal

pub returns : goal.returns
returns c = loads_keep
