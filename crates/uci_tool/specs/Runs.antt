-- How the parts of a run answer.
use Rattle.std.specs.Prelude.{ℕ, ◌≡◌, ◌≢◌, ◌⊎◌, Bool, true, false, List, [], Result, Ok, Err, if◌then◌else◌}
use Rattle.plane_words.specs.Causes.{Rose}
use Rattle.plane_words.specs.Growth.{Grows, GrowsByFront}
use Rattle.plane_disk.specs.View.{View}
use Rattle.snap_disk.specs.Images.{SameDisk}
use Rattle.plane_io.specs.Source.{HadMoreThan}
use Rattle.plane_io.specs.declared.input.TheConstants.{INPUT_LIMIT}
use Rattle.uci_cli.specs.declared.options.Options.{Options}
use Rattle.uci_cli.specs.declared.command.Command.{Command}
use Rattle.uci_cli.specs.Command.{reads_input}
use Rattle.uci_staged.specs.Kept.{Follows}
use Rattle.uci_store.specs.declared.store.Store.{Store}
use Rattle.uci_store.specs.Store.{has_failed, IsOnFiles, IsOnStaged}
use Rattle.uci_cli.specs.declared.refusal.TheConstants as texts
use Rattle.uci_tool.specs.declared.report.Report.{Report}
use Rattle.uci_tool.specs.declared.tool.Cut.{Cut}
use Rattle.uci_tool.specs.declared.tool.Cut.TheVariants as cut
use Rattle.uci_tool.specs.declared.tool.UciEnd.{UciEnd}
use Rattle.uci_tool.specs.Folder.{Folder}
use Rattle.uci_tool.specs.Done.{carried, status_of, refusal_number}
use Rattle.uci_tool.specs.Passes.{passes}
use Rattle.uci_tool.specs.Answers.{IsAmong, carried_as}
use Rattle.uci_tool.specs.Ends.{Stream, IsInputBy, IsTold, end_of}

-- the input that a command asks for, or why there is none
abbrev pub ReadsText : Result (List ℕ) Cut → Bool → Stream → Type 0
ReadsText (Ok text) reads stream = IsInputBy reads stream text
ReadsText (Err cut.TooLong) reads stream = (reads ≡ true) × HadMoreThan INPUT_LIMIT stream.old
ReadsText (Err cut.ReadFailed) reads stream = Rose stream.faults stream.faults_now
ReadsText (Err cut.WriteFailed) reads stream = ⊥
ReadsText (Err cut.DiskFailed) reads stream = ⊥
ReadsText (Err cut.Memory) reads stream = Unit {0}

-- a command was carried out on the input that it read
pub record IsCarried (options : Options) (command : Command) (before : Folder) (input : Stream) (report : Report)
    (after : Folder) : Type 0 where
  pub text : List ℕ
  pub read : IsInputBy (reads_input command) input text
  pub is : carried options before command text ≡ carried_as report after

-- a folder is one that a command passes through with the input that it read
pub record IsCommandPassed (options : Options) (command : Command) (before : Folder) (input : Stream) (after : Folder)
    : Type 0 where
  pub text : List ℕ
  pub read : IsInputBy (reads_input command) input text
  pub among : IsAmong after (passes options before command text)

-- what a command reports, or what cut it short
abbrev pub Runs : Result Report Cut → Options → Command → Folder → Folder → Stream → Type 0
Runs (Ok report) options command before after input = IsCarried options command before input report after
Runs (Err cut.TooLong) options command before after input = (reads_input command ≡ true)
    × HadMoreThan INPUT_LIMIT input.old × (after ≡ before)
Runs (Err cut.ReadFailed) options command before after input = Rose input.faults input.faults_now × (after ≡ before)
Runs (Err cut.WriteFailed) options command before after input = ⊥
Runs (Err cut.DiskFailed) options command before after input = Unit {0}
Runs (Err cut.Memory) options command before after input =
    (after ≡ before) ⊎ IsCommandPassed options command before input after

-- what a command reports on a text that it read
abbrev pub RunsOn : Result Report Cut → Options → Command → Folder → Folder → List ℕ → Type 0
RunsOn (Ok report) options command before after text = carried options before command text ≡ carried_as report after
RunsOn (Err cut.DiskFailed) options command before after text = Unit {0}
RunsOn (Err cut.Memory) options command before after text = IsAmong after (passes options before command text)
RunsOn (Err _) options command before after text = ⊥

-- what a run leaves: the store on its disks, of which one failed only where its count rose
pub record Leaves (result : Result Report Cut) (new : Store)
    (files_before files_after staged_before staged_after : View) : Type 0 where
  pub files : IsOnFiles new files_after
  pub staged : IsOnStaged new staged_after
  pub same : SameDisk files_before files_after
  pub follows : Follows staged_before staged_after
  pub closes : result ≢ Err cut.DiskFailed → has_failed new ≡ false
  pub cause : result ≡ Err cut.DiskFailed
      → Rose files_before.faults files_after.faults ⊎ Rose staged_before.faults staged_after.faults

-- a text as the error output gets it, unless the words ask for silence
abbrev pub told_unless : Bool → List ℕ → List ℕ
told_unless quiet text = if quiet then [] else text

-- how a run ends that was carried out: its output is written, or the sink failed
pub data EndsWith (quiet : Bool) (report : Report) (out err : Stream) (end : UciEnd) : Type 0 where
  written : end ≡ end_of (status_of report.refusal) (refusal_number report.refusal)
      → Grows out.old out.new report.output → IsTold (told_unless quiet report.told) err
      → EndsWith quiet report out err end
  not_written : end ≡ end_of 4 0 → Rose out.faults out.faults_now
      → GrowsByFront out.old out.new report.output → IsTold (told_unless quiet texts.DISK_FAILED.now) err
      → EndsWith quiet report out err end
