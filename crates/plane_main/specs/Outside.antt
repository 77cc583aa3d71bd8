-- What a run sees outside, as plain records made from the members of the devices.
use Rattle.std.specs.Prelude.{ℕ, List, Option}
use Rattle.plane_disk.specs.View.{View}
use Rattle.plane_io.specs.declared.source.Source.{Ghosts as SourceMembers}
use Rattle.plane_io.specs.declared.sink.Sink.{Ghosts as SinkMembers}
use Rattle.net_settle.specs.Outside.{Outside}
use Rattle.uci_tool.specs.Ends.{Stream, Streams}
use Rattle.plane_outside.specs.Supply.{Supply}

-- the input: what was left before and is left now, where the source tells, and its counts of faults then and now
pub record Input : Type 0 where
  pub left : Option (List ℕ)
  pub left_now : Option (List ℕ)
  pub faults : ℕ
  pub faults_now : ℕ

-- the error output: what it held before and holds now, where it tells, and its counts of faults then and now
pub record ErrorOutput : Type 0 where
  pub held : Option (List ℕ)
  pub held_now : Option (List ℕ)
  pub faults : ℕ
  pub faults_now : ℕ

abbrev pub input_of : {S : Type 0} → SourceMembers S → S → S → Input
input_of source before now = record {
  left = source.left before;
  left_now = source.left now;
  faults = source.faults before;
  faults_now =
      source.faults now;
}

abbrev pub errors_of : {E : Type 0} → SinkMembers E → E → E → ErrorOutput
errors_of sink before now = record
    { held = sink.held before; held_now = sink.held now; faults = sink.faults before; faults_now = sink.faults now }

-- the disks of the packages and of staged changes, before and now, and what the clock told that it would give
pub record Folders : Type 1 where
  pub files : View
  pub files_now : View
  pub staged : View
  pub staged_now : View
  pub moments : Option (ℕ → ℕ)

-- all of it: the input; the output and the kernel before and now; the error output; the folders; and what the random
-- source told that it would give
pub record Seen : Type 1 where
  pub input : Input
  pub before : Outside
  pub after : Outside
  pub errors : ErrorOutput
  pub folders : Folders
  pub random : Supply

-- the streams alone, as a run of `uci` sees them
abbrev pub stream_of_input : Input → Stream
stream_of_input input = record {
  old = input.left;
  new = input.left_now;
  faults = input.faults;
  faults_now =
      input.faults_now;
}

abbrev pub stream_of_output : Outside → Outside → Stream
stream_of_output before after =
    record { old = before.out; new = after.out; faults = before.out_faults; faults_now = after.out_faults }

abbrev pub stream_of_errors : ErrorOutput → Stream
stream_of_errors errors = record
    { old = errors.held; new = errors.held_now; faults = errors.faults; faults_now = errors.faults_now }

abbrev pub streams_in : Seen → Streams
streams_in seen = record {
  input = stream_of_input seen.input;
  out = stream_of_output seen.before seen.after;
  err =
      stream_of_errors seen.errors;
}
