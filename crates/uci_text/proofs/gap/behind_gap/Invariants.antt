use Rattle.std.proofs.Common.{length}
use Rattle.uci_text.proofs.GapLemmas.{GapSoFar}
use Rattle.uci_text.proofs.gap.behind_gap.Given as goal

abbrev pub invariant-loop-mark : goal.invariant-loop-mark
invariant-loop-mark l = GapSoFar l.bytes l.rest

abbrev pub decreases-loop-mark : goal.decreases-loop-mark
decreases-loop-mark l = length l.rest
