use Rattle.kern_calls.proofs.KeptLemmas.{over_taken, loses_link_over}
use Rattle.kern_calls.proofs.laws.loses_link_with_taken_links.Goals as goal

pub returns : goal.returns
returns c held wanted name = (over_taken held wanted name, loses_link_over held wanted name)
