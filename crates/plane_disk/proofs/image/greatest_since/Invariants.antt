use Rattle.std.proofs.Common.{◌≡◌, take}
use Rattle.plane_disk.specs.Images.{greatest_size}
use Rattle.plane_disk.proofs.image.greatest_since.Given as goal

abbrev pub invariant-loop-call : goal.invariant-loop-call
invariant-loop-call l = l.size ≡ greatest_size l.file l.synced (take l.call-index l.since)
