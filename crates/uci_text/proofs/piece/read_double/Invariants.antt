use Rattle.std.proofs.Common.{length}
use Rattle.uci_text.proofs.PieceLemmas.{DoubleSoFar}
use Rattle.uci_text.proofs.piece.read_double.Given as goal

abbrev pub invariant-loop-mark : goal.invariant-loop-mark
invariant-loop-mark l = DoubleSoFar l.inside l.rest l.fn.value.items l.value.items

abbrev pub decreases-loop-mark : goal.decreases-loop-mark
decreases-loop-mark l = length l.rest
