use Rattle.std.proofs.Common.{take}
use Rattle.snap_disk.specs.Phase.{ArePackageFiles}
use Rattle.snap_disk.proofs.new_file.are_package_files.Given as goal

abbrev pub invariant-loop-file : goal.invariant-loop-file
invariant-loop-file l = ArePackageFiles l.count (take l.file-index l.files)
