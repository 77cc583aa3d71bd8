use Rattle.uci_delta.proofs.TakenLemmas.{read_lines}
use Rattle.uci_delta.proofs.laws.read_deltas_are_lines.Goals as goal

pub returns : goal.returns
returns c = read_lines
