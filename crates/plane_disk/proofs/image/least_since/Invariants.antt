use Rattle.std.proofs.Common.{◌≡◌, ◌≤◌, length, take}
use Rattle.plane_disk.specs.Images.{least_size}
use Rattle.plane_disk.proofs.image.least_since.Given as goal

abbrev pub invariant-loop-call : goal.invariant-loop-call
invariant-loop-call l = record { size : l.size ≡ least_size l.file l.synced (take l.call-index l.since); fits : l.size ≤ length l.synced }
