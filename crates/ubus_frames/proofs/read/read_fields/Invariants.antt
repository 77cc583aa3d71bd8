use Rattle.std.proofs.Common.{length}
use Rattle.ubus_frames.specs.Found.{FieldsSoFar}
use Rattle.ubus_frames.proofs.read.read_fields.Given as goal

abbrev pub invariant-loop-rest : goal.invariant-loop-rest
invariant-loop-rest l = FieldsSoFar 12 l.at l.bytes l.rest l.initial.frame l.frame

abbrev pub decreases-loop-rest : goal.decreases-loop-rest
decreases-loop-rest l = length l.rest
