use Rattle.std.proofs.Common.{◌≡◌, take}
use Rattle.plane_disk.specs.MemDisk.{contents_of}
use Rattle.plane_disk.proofs.change.contents.Given as goal

abbrev pub invariant-loop-file : goal.invariant-loop-file
invariant-loop-file l = l.texts.items ≡ contents_of (take l.file-index l.files)
