use Rattle.rpc_login.proofs.PasswordLemmas.{digest_of_stored}
use Rattle.rpc_login.proofs.laws.one_digest.Goals as goal

pub returns : goal.returns
returns c = digest_of_stored
