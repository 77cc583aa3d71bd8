-- How a run of `uci` ends, and what it leaves.
use Rattle.std.specs.Prelude.{ℕ, ◌≡◌, ◌≤◌, ◌⊎◌, Bool, true, false, List, [], length, Option, Some, None}
use Rattle.plane_words.specs.Causes.{Rose, DidNotRise}
use Rattle.plane_words.specs.Growth.{Grows, GrowsByFront}
use Rattle.plane_disk.specs.View.{View}
use Rattle.plane_io.specs.Source.{IsAllThatWasLeft, HadMoreThan}
use Rattle.plane_io.specs.declared.input.TheConstants.{INPUT_LIMIT}
use Rattle.plane_io.specs.declared.source.Source.{Ghosts as SourceMembers}
use Rattle.plane_io.specs.declared.sink.Sink.{Ghosts as SinkMembers}
use Rattle.uci_cli.specs.declared.command.Command.{Command}
use Rattle.uci_cli.specs.Command.{reads_input}
use Rattle.uci_cli.specs.Words.{asked_of}
use Rattle.uci_cli.specs.declared.refusal.TheConstants as texts
use Rattle.uci_tool.specs.declared.tool.UciEnd.{UciEnd}
use Rattle.uci_tool.specs.Folder.{Folder}
use Rattle.uci_tool.specs.Done.{uci_done, told_by}
use Rattle.uci_tool.specs.Passes.{uci_passes}
use Rattle.uci_tool.specs.Answers.{IsAmong}

-- a stream before and now, where it tells, and its counts of faults then and now
pub record Stream : Type 0 where
  pub old : Option (List ℕ)
  pub new : Option (List ℕ)
  pub faults : ℕ
  pub faults_now : ℕ

abbrev pub source_of : {S : Type 0} → SourceMembers S → S → S → Stream
source_of source before now = record
    { old = source.left before; new = source.left now; faults = source.faults before; faults_now = source.faults now }

abbrev pub sink_of : {E : Type 0} → SinkMembers E → E → E → Stream
sink_of sink before now = record
    { old = sink.held before; new = sink.held now; faults = sink.faults before; faults_now = sink.faults now }

-- what a run reads and writes beside its disks
pub record Streams : Type 0 where
  pub input : Stream
  pub out : Stream
  pub err : Stream

abbrev pub streams_of : {S O E : Type 0} → SourceMembers S → S → S → SinkMembers O → O → O → SinkMembers E → E → E
    → Streams
streams_of source input input_now out_sink out out_now err_sink err err_now =
    record {
      input = source_of source input input_now;
      out = sink_of out_sink out out_now;
      err =
          sink_of err_sink err err_now;
    }

-- the words ask for a command that reads the input
abbrev pub asks_input : Option Command → Bool
asks_input None = false
asks_input (Some command) = reads_input command

abbrev pub reads : List (List ℕ) → Bool
reads words = asks_input (asked_of words).command

-- the input that a command read: all that was left, within the limit, and nothing where it reads none
abbrev pub IsInputBy : Bool → Stream → List ℕ → Type 0
IsInputBy true stream input = IsAllThatWasLeft stream.old stream.new input × (length input ≤ INPUT_LIMIT)
IsInputBy false stream input = input ≡ []

abbrev pub IsInput : List (List ℕ) → Stream → List ℕ → Type 0
IsInput words stream input = IsInputBy (reads words) stream input

-- a text is on the error output: all of it where no fault was counted there, and else a front of it
pub record IsTold (text : List ℕ) (stream : Stream) : Type 0 where
  pub front : GrowsByFront stream.old stream.new text
  pub whole : DidNotRise stream.faults stream.faults_now → Grows stream.old stream.new text

abbrev pub IsSilent : Stream → Type 0
IsSilent stream = stream.new ≡ stream.old

abbrev pub end_of : ℕ → ℕ → UciEnd
end_of status refusal = record { status = status; refusal = refusal }

-- the folder is as it was, or one that the command passes through with the input that it read
abbrev pub IsPassed : List (List ℕ) → Folder → Folder → Stream → Type 0
IsPassed words before after stream =
    (after ≡ before) ⊎ ((input : List ℕ) × IsInput words stream input × IsAmong after (uci_passes words before input))

-- the text is told, unless the words ask for silence
abbrev pub Tells : List (List ℕ) → List ℕ → Stream → Type 0
Tells words text stream = IsTold (told_by (asked_of words).options text) stream

-- Want of memory is told so. Where there was none to read the words, it is told also to words that request for silence.
abbrev pub TellsMemory : List (List ℕ) → Stream → Type 0
TellsMemory words stream = Tells words texts.OUT_OF_MEMORY.now stream ⊎ IsTold texts.OUT_OF_MEMORY.now stream

-- A run has an ending. One that is done, refused or asked for nothing leaves what `uci_done` says, output and error
-- text included. One whose output failed leaves its folder, and a front of its output. One that is cut short writes
-- nothing to the output: by its input, which leaves the folder; by a disk; or for want of memory, which leaves a folder
-- that the command passes through.
pub data Ends (words : List (List ℕ)) (before after : Folder) (streams : Streams)
    (files_before files_after staged_before staged_after : View) (end : UciEnd) : Type 0 where
  carried_out : (input : List ℕ) → IsInput words streams.input input
      → end ≡ end_of (uci_done words before input).status (uci_done words before input).refusal
      → Grows streams.out.old streams.out.new (uci_done words before input).output
      → IsTold (uci_done words before input).told streams.err
      → after ≡ (uci_done words before input).after
      → Ends words before after streams files_before files_after staged_before staged_after end
  input_too_long : reads words ≡ true → HadMoreThan INPUT_LIMIT streams.input.old
      → end ≡ end_of 10 0 → IsSilent streams.out → Tells words texts.TOO_LARGE.now streams.err → after ≡ before
      → Ends words before after streams files_before files_after staged_before staged_after end
  read_failed : Rose streams.input.faults streams.input.faults_now
      → end ≡ end_of 3 0 → IsSilent streams.out → Tells words texts.DISK_FAILED.now streams.err → after ≡ before
      → Ends words before after streams files_before files_after staged_before staged_after end
  write_failed : (input : List ℕ) → IsInput words streams.input input → Rose streams.out.faults streams.out.faults_now
      → end ≡ end_of 4 0 → GrowsByFront streams.out.old streams.out.new (uci_done words before input).output
      → Tells words texts.DISK_FAILED.now streams.err → after ≡ (uci_done words before input).after
      → Ends words before after streams files_before files_after staged_before staged_after end
  disk_failed : Rose files_before.faults files_after.faults ⊎ Rose staged_before.faults staged_after.faults
      → end ≡ end_of 5 0 → IsSilent streams.out → Tells words texts.DISK_FAILED.now streams.err
      → Ends words before after streams files_before files_after staged_before staged_after end
  no_memory : end ≡ end_of 8 0 → IsSilent streams.out → TellsMemory words streams.err
      → IsPassed words before after streams.input
      → Ends words before after streams files_before files_after staged_before staged_after end
