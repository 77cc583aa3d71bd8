use Rattle.std.proofs.Common.{length}
use Rattle.ubus_frames.specs.Found.{NumbersSoFar}
use Rattle.ubus_frames.proofs.numbers.read_numbers.Given as goal

abbrev pub invariant-loop-rest : goal.invariant-loop-rest
invariant-loop-rest l = NumbersSoFar l.place l.at l.bytes l.rest l.numbers

abbrev pub decreases-loop-rest : goal.decreases-loop-rest
decreases-loop-rest l = length l.rest
