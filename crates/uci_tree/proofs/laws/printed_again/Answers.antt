use Rattle.uci_tree.proofs.PlacedLemmas.{printed_as_before}
use Rattle.uci_tree.proofs.laws.printed_again.Goals as goal

pub returns : goal.returns
returns c = printed_as_before
