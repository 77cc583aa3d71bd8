use Rattle.std.proofs.Common.{◌≡◌, ◌++◌, take}
use Rattle.snap_disk.specs.BodyText.{files_text}
use Rattle.snap_disk.proofs.body_text.body_text.Given as goal

-- the files so far stand behind the head
abbrev pub invariant-loop-file : goal.invariant-loop-file
invariant-loop-file g l = l.body.items ≡ l.initial.body.items ++ files_text (g.D.Disk.view l.disk).names (take l.file-index l.files)
