use Rattle.std.proofs.Common.{length}
use Rattle.rpc_session.proofs.PatternLemmas.{SoFar}
use Rattle.rpc_session.proofs.pattern.read_front.Given as goal

abbrev pub invariant-loop-byte : goal.invariant-loop-byte
invariant-loop-byte l = SoFar l.fn.pattern l.fn.text l.tail l.ending

abbrev pub decreases-loop-byte : goal.decreases-loop-byte
decreases-loop-byte l = length l.tail
