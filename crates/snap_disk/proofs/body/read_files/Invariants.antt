use Rattle.std.proofs.Common.{◌≡◌, ◌+◌, ◌-◌, [], length}
use Rattle.snap_disk.specs.Body.{more_files}
use Rattle.snap_disk.specs.Phase.{ArePackageFiles}
use Rattle.snap_disk.proofs.body.read_files.Given as goal

-- so many files are read, and the others stand from the place on
abbrev pub invariant-loop-more : goal.invariant-loop-more
invariant-loop-more g l = record {
  room : l.place + length l.rest ≡ 29 + length l.bytes;
  so_far : more_files (g.D.Disk.view l.disk).names l.count [] 29 l.bytes ≡ more_files (g.D.Disk.view l.disk).names (l.count - l._more) l.files l.place l.rest;
  packages : ArePackageFiles (length (g.D.Disk.view l.disk).names) l.files;
}
