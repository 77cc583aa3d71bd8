use Rattle.uci_tree.proofs.LawLemmas.{tree_fault_is_one}
use Rattle.uci_tree.proofs.laws.one_tree_fault.Goals as goal

pub returns : goal.returns
returns c = tree_fault_is_one
