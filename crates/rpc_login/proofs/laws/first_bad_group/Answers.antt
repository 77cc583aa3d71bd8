use Rattle.rpc_login.proofs.BadLemmas.{first_bad}
use Rattle.rpc_login.proofs.laws.first_bad_group.Goals as goal

pub returns : goal.returns
returns c = first_bad
