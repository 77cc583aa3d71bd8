use Rattle.std.proofs.Common.{below_more}
use Rattle.plane_disk.proofs.image.is_image_of.Goals as goal
use Rattle.plane_disk.proofs.image.is_image_of.Goals.{else-bytes-place-via-then-bytes-place+else-not-is_written, else-bytes-place-via-else-bytes-place}

pub loop-place-preserved : goal.loop-place-preserved
loop-place-preserved c = below_more _ _ c.loop-place.invariant (elim c.else-bytes-place.branch [
  | else-bytes-place-via-then-bytes-place+else-not-is_written w ↦ λ none. absurd (cc)
  | else-bytes-place-via-else-bytes-place w ↦ λ none. w.if-bytes-place.false
])
