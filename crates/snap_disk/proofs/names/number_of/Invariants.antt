use Rattle.std.proofs.Common.{◌≡◌, drop}
use Rattle.snap_disk.specs.Body.{number_from, number_of}
use Rattle.snap_disk.proofs.names.number_of.Given as goal

-- none of the names so far is it
abbrev pub invariant-loop-file : goal.invariant-loop-file
invariant-loop-file g l = let names = (g.D.Disk.view l.disk).names in
    number_of names l.name ≡ number_from l.file (drop l.file names) l.name
