use Rattle.std.proofs.Common.{◌≤◌, ◌+◌, length}
use Rattle.ubus_frames.proofs.feeder.count_whole.Given as goal

-- each frame so far has at least one byte
abbrev pub invariant-loop-size : goal.invariant-loop-size
invariant-loop-size l = l.count + length l.rest ≤ length l.bytes

abbrev pub decreases-loop-size : goal.decreases-loop-size
decreases-loop-size l = length l.rest
