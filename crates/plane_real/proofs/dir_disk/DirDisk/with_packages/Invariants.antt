use Rattle.std.proofs.Common.{◌≡◌, length}
use Rattle.plane_real.proofs.dir_disk.DirDisk.with_packages.Given as goal

-- a file is open for each name so far
abbrev pub invariant-loop-name : goal.invariant-loop-name
invariant-loop-name g l = length l.files.items ≡ l.name-index
