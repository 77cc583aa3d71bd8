use Rattle.kern_calls.proofs.GoOnLemmas.{go_on}
use Rattle.kern_calls.proofs.laws.calls_go_on.Goals as goal

pub returns : goal.returns
returns c devices held wanted made rest from to are = go_on devices held wanted from to made rest are
