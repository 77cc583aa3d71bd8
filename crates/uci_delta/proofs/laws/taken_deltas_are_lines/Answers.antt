use Rattle.uci_delta.proofs.TakenLemmas.{taken_line}
use Rattle.uci_delta.proofs.laws.taken_deltas_are_lines.Goals as goal

pub returns : goal.returns
returns c = taken_line
