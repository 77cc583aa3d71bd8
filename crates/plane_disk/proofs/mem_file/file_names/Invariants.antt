use Rattle.std.proofs.Common.{◌≡◌, take}
use Rattle.plane_disk.specs.MemDisk.{names_of}
use Rattle.plane_disk.proofs.mem_file.file_names.Given as goal

abbrev pub invariant-loop-file : goal.invariant-loop-file
invariant-loop-file l = l.names.items ≡ names_of (take l.file-index l.files)
