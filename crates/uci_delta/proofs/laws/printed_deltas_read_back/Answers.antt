use Rattle.uci_delta.proofs.PrintedLemmas.{lines_read}
use Rattle.uci_delta.proofs.laws.printed_deltas_read_back.Goals as goal

pub returns : goal.returns
returns c = lines_read
