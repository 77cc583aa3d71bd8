use Rattle.std.proofs.Common.{◌≡◌, ◌++◌, ◌+◌, drop}
use Rattle.snap_disk.specs.Open.{old_files}
use Rattle.snap_disk.proofs.snap.Snap.old_files.Given as goal

-- those before this one are taken
abbrev pub invariant-loop-index : goal.invariant-loop-index
invariant-loop-index l = old_files l.new 2 l.self.packages.items ≡ l.files ++ old_files l.new (l.index + 2) (drop l.index l.packages)
