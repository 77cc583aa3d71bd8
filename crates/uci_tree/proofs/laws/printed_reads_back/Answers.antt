use Rattle.uci_tree.proofs.PrintLemmas.{printed_reads}
use Rattle.uci_tree.proofs.laws.printed_reads_back.Goals as goal

pub returns : goal.returns
returns c = printed_reads
