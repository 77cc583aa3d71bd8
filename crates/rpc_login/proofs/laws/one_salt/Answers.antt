use Rattle.rpc_login.proofs.PasswordLemmas.{salt_of_stored}
use Rattle.rpc_login.proofs.laws.one_salt.Goals as goal

pub returns : goal.returns
returns c = salt_of_stored
