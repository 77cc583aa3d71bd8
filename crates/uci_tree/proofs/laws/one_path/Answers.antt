use Rattle.uci_tree.proofs.PathLemmas as paths
use Rattle.uci_tree.proofs.laws.one_path.Goals as goal

pub returns : goal.returns
returns c = paths.one_path
