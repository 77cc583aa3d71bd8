use Rattle.std.proofs.Common.{length}
use Rattle.uci_delta.proofs.DeltasLemmas.{ReadsOn}
use Rattle.uci_delta.proofs.reading.read_deltas.Given as goal

-- the deltas so far are those of the text in front of the rest
abbrev pub invariant-loop-part : goal.invariant-loop-part
invariant-loop-part l = ReadsOn l.package l.text l.rest l.deltas

abbrev pub decreases-loop-part : goal.decreases-loop-part
decreases-loop-part l = length l.rest
