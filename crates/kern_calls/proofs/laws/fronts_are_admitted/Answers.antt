use Rattle.kern_calls.proofs.KeptLemmas.{front_admitted, all_admitted}
use Rattle.kern_calls.proofs.laws.fronts_are_admitted.Goals as goal

pub returns : goal.returns
returns c devices objects front rest = (front_admitted devices objects front rest, λ both. all_admitted devices objects front rest both.0 both.1)
