use Rattle.kern_calls.proofs.KeptLemmas.{same_if_none_due, none_due_if_same}
use Rattle.kern_calls.proofs.laws.nothing_is_due.Goals as goal

pub returns : goal.returns
returns c held wanted = (same_if_none_due held wanted, none_due_if_same held wanted)
