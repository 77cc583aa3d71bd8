use Rattle.kern_calls.proofs.KeptLemmas.{grounded}
use Rattle.kern_calls.proofs.laws.levels_ground_vlans.Goals as goal

pub returns : goal.returns
returns c = grounded
