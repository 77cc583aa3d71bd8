use Rattle.std.proofs.Common.{ℕ, ◌≡◌, ◌≤◌, ◌-◌, ◌+◌, Some, take, drop, length}
use Rattle.plane_disk.specs.Files.{Files, bytes_of}
use Rattle.snap_disk.specs.Body.{most_bytes}
use Rattle.snap_disk.specs.Opening.{Quiet}
use Rattle.snap_disk.proofs.opening.read_packages.Given as goal

-- the packages so far are read
abbrev pub invariant-loop-file : goal.invariant-loop-file
invariant-loop-file g l = record {
  quiet : Quiet (g.D.Disk.view l.fn.disk) (g.D.Disk.view l.disk);
  long : l.file ≡ length l.packages.items + 2;
  small : (k : ℕ) → length (bytes_of l.packages.items k) ≤ most_bytes;
  bytes : (files : Files) → (g.D.Disk.view l.fn.disk).seen ≡ Some files → l.packages.items ≡ take (l.file - 2) (drop 2 files);
}
