use Rattle.kern_calls.proofs.CallsLemmas.{are_the_calls, no_other_calls}
use Rattle.kern_calls.proofs.laws.calls_are_the_calls.Goals as goal

pub returns-clause-are : goal.returns-clause-are
returns-clause-are c = are_the_calls

pub returns-clause-alone : goal.returns-clause-alone
returns-clause-alone c = no_other_calls
