use Rattle.std.proofs.Common.{◌≡◌, ◌<◌, ℕ, false, get_or}
use Rattle.std.specs.List.{list_any}
use Rattle.plane_disk.specs.Images.{is_written_by}
use Rattle.plane_disk.proofs.image.is_image_of.Given as goal

-- each place so far stays, or was written
abbrev pub invariant-loop-place : goal.invariant-loop-place
invariant-loop-place l = (k : ℕ) → k < l.place → list_any (is_written_by l.file k) l.since ≡ false → get_or l.bytes k 0 ≡ get_or l.synced k 0
