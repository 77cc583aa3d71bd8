use Rattle.std.proofs.Common.{◌<◌, ℕ}
use Rattle.plane_disk.specs.Files.{bytes_of}
use Rattle.plane_disk.specs.Images.{IsImageOf}
use Rattle.plane_disk.proofs.image.is_image.Given as goal

abbrev pub invariant-loop-file : goal.invariant-loop-file
invariant-loop-file l = (k : ℕ) → k < l.file → IsImageOf k (bytes_of l.synced k) l.since (bytes_of l.files k)
