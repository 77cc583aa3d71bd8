use Rattle.uci_tree.proofs.ReadingLemmas.{one_tree}
use Rattle.uci_tree.proofs.laws.one_package.Goals as goal

pub returns : goal.returns
returns c = one_tree
