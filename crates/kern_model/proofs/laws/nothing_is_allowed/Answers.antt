use Rattle.kern_model.proofs.AllowedLemmas.{nothing_allowed}
use Rattle.kern_model.proofs.laws.nothing_is_allowed.Goals as goal

pub returns : goal.returns
returns c = nothing_allowed
