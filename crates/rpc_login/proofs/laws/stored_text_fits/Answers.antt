use Rattle.std.proofs.Common.{refl}
use Rattle.rpc_login.proofs.laws.stored_text_fits.Goals as goal

pub returns : goal.returns
returns c = λ salt password is. record { salt = salt; is_salt = is; is = refl }
