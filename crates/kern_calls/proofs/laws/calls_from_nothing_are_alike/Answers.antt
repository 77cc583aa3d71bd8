use Rattle.kern_calls.proofs.CallsLemmas.{alike_from_nothing}
use Rattle.kern_calls.proofs.laws.calls_from_nothing_are_alike.Goals as goal

pub returns : goal.returns
returns c = alike_from_nothing
