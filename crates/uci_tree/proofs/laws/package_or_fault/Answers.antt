use Rattle.uci_tree.proofs.LawLemmas as laws
use Rattle.uci_tree.proofs.laws.package_or_fault.Goals as goal

pub returns : goal.returns
returns c = laws.package_or_fault
