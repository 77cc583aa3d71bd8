use Rattle.kern_calls.proofs.LowerLemmas.{lower_calls}
use Rattle.kern_calls.proofs.laws.lower_calls_are_calls.Goals as goal

pub returns : goal.returns
returns c devices held wanted calls are = lower_calls held wanted devices calls are
