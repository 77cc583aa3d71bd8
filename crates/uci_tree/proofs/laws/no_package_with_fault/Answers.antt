use Rattle.uci_tree.proofs.LawLemmas.{no_package}
use Rattle.uci_tree.proofs.laws.no_package_with_fault.Goals as goal

pub returns : goal.returns
returns c = no_package
