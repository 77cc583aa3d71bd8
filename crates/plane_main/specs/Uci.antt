-- How a run of `uci` ends, and when.
use Rattle.std.specs.Prelude.{ℕ, List}
use Rattle.plane_main.specs.declared.ending.Ending.{Ending}
use Rattle.plane_main.specs.declared.ending.Ending.TheVariants as ending
use Rattle.uci_tool.specs.Run.{RunEnds}
use Rattle.uci_tool.specs.Comes.{RunComes}
use Rattle.plane_run.specs.Parts.{KeepsDisks}
use Rattle.plane_main.specs.Outside.{Seen, streams_in}
use Rattle.plane_main.specs.Ending.{status_of}

-- Why it ends so, and what it leaves, its text on the error output included; and the disks stay the same ones, of which
-- each that tells its files goes on to tell them.
abbrev pub UciEnds : List (List ℕ) → Seen → Ending → Type 0
UciEnds words seen (ending.OfUci status) = let folders = seen.folders in
    RunEnds words folders.moments (streams_in seen) folders.files folders.files_now folders.staged folders.staged_now
    status
    × KeepsDisks folders.files folders.files_now folders.staged folders.staged_now
UciEnds words seen _ = ⊥

-- When it ends so.
abbrev pub UciComes : List (List ℕ) → Seen → Ending → Type 0
UciComes words seen end = let folders = seen.folders in
    RunComes words folders.moments (streams_in seen) folders.files folders.files_now folders.staged folders.staged_now
    (status_of end)
