use Rattle.std.proofs.Common.{◌≡◌, ◌+◌, length}
use Rattle.snap_disk.specs.Opened.{put}
use Rattle.snap_disk.specs.Phase.{ArePackageFiles}
use Rattle.snap_disk.proofs.snap.put.Given as goal

-- putting those that are left gives what putting all gave
abbrev pub invariant-loop-file : goal.invariant-loop-file
invariant-loop-file l = record {
  are : ArePackageFiles (length l.packages.items + 2) l.file-iterator.rest.items;
  puts : put l.file-iterator.rest.items l.packages.items ≡ put l.initial.file-iterator.rest.items l.initial.packages.items;
}
