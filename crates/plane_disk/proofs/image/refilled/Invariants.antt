use Rattle.std.proofs.Common.{◌≡◌, take}
use Rattle.plane_disk.specs.MemDisk.{names_of, contents_of}
use Rattle.plane_disk.proofs.image.refilled.Given as goal

abbrev pub invariant-loop-i : goal.invariant-loop-i
invariant-loop-i l = record { names : names_of l.files.items ≡ names_of (take l.i l.old); contents : contents_of l.files.items ≡ take l.i l.contents }
