use Rattle.std.proofs.Common.{length}
use Rattle.ubus_frames.specs.Feeding.{PushesSoFar}
use Rattle.ubus_frames.proofs.feeder.push_frames.Given as goal

abbrev pub invariant-loop-front : goal.invariant-loop-front
invariant-loop-front l = PushesSoFar l.size l.bytes l.rest l.fn.ready.items l.ready.items

abbrev pub decreases-loop-front : goal.decreases-loop-front
decreases-loop-front l = length l.rest
