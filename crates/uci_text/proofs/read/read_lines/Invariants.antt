use Rattle.std.proofs.Common.{length}
use Rattle.uci_text.proofs.ReadLemmas.{ReadSoFar}
use Rattle.uci_text.proofs.read.read_lines.Given as goal

abbrev pub invariant-loop-rest : goal.invariant-loop-rest
invariant-loop-rest l = ReadSoFar l.text l.rest l.number l.lines

abbrev pub decreases-loop-rest : goal.decreases-loop-rest
decreases-loop-rest l = length l.rest
