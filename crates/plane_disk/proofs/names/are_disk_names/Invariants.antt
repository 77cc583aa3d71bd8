use Rattle.std.proofs.Common.{◌≤◌, ◌<◌, ℕ}
use Rattle.plane_disk.specs.Names.{IsPlaced}
use Rattle.plane_disk.proofs.names.are_disk_names.Given as goal

abbrev pub invariant-loop-file : goal.invariant-loop-file
invariant-loop-file l = (k : ℕ) → k < l.file → 2 ≤ k → IsPlaced l.names k
