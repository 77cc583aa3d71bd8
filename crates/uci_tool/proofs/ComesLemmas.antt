-- When a run ends so.
use Rattle.std.proofs.Common.{arith, ℕ, ◌≡◌, ◌<◌, ◌≤◌, inl, inr, Bool, true, false, List, [], length, drop, Option, Some, None, refl, ap, sym, subst, ◌∙◌}
use Rattle.std.specs.Prelude.{◌⊎◌, ◌&&◌, is_some, nat_lt, Result, Ok, Err}
use Rattle.std.proofs.lemmas.Bool.Decides.{nat_tests}
use Rattle.plane_words.specs.Causes.{Rose}
use Rattle.plane_io.specs.declared.input.TheConstants.{INPUT_LIMIT}
use Rattle.plane_io.specs.Source.{IsAllThatWasLeft, HadMoreThan}
use Rattle.plane_disk.specs.Files.{Files, bytes_of}
use Rattle.plane_disk.specs.View.{View}
use Rattle.snap_disk.specs.Opened.{IsWithin, PassesLimit, opened as opened_as}
use Rattle.snap_disk.specs.Opening.{OpensGiving, HasNoReading}
use Rattle.uci_cli.specs.declared.options.Options.{Options}
use Rattle.uci_cli.specs.declared.command.Command.{Command}
use Rattle.uci_cli.specs.declared.words.Asked.{Asked}
use Rattle.uci_cli.specs.Command.{reads_input}
use Rattle.uci_cli.specs.Words.{asked_of}
use Rattle.uci_cli.specs.declared.refusal.Refusal.{Refusal}
use Rattle.uci_tool.specs.declared.tool.UciEnd.{UciEnd}
use Rattle.uci_tool.specs.Folder.{Folder}
use Rattle.uci_tool.specs.Line.{Carried}
use Rattle.uci_tool.specs.Done.{status_of as status_by, carried, is_too_long, asked_uci, uci_done}
use Rattle.uci_tool.specs.Ends.{Stream, Streams, asks_input, reads, IsInputBy, IsInput, end_of, Ends, carried_out, input_too_long, read_failed, write_failed, disk_failed, no_memory}
use Rattle.uci_tool.specs.declared.shut.Shut.{Shut}
use Rattle.uci_tool.specs.declared.shut.Shut.TheVariants.{DiskFailed, Memory, TooLarge, BadSnapshot}
use Rattle.uci_tool.specs.Asking.{asks}
use Rattle.uci_tool.specs.Shut.{status_of, IsShut}
use Rattle.uci_tool.specs.Folders.{IsMoment, IsFound}
use Rattle.uci_tool.specs.Run.{RunEnds, no_command, not_opened, opened, words_unread}
use Rattle.uci_tool.specs.Comes.{IsCalm, OrLacksMemory, IsAsked, HasReading, FitsInput, RunComes}

-- files within their limits pass none
within_passes : (packages : Files) (number : ℕ) → IsWithin packages → PassesLimit packages number → ⊥
within_passes packages number within (inl many) = let few = within.few in let more = many.passed in omega arith
within_passes packages number within (inr large) = let small = within.small large.index in let more = large.passed in omega arith

-- files that have a reading do not lack one
reads_once : (names : List (List ℕ)) (read : Files) (now place : ℕ) → HasReading names read now → HasNoReading names read now place → ⊥
reads_once names read now place reading none = let gives = reading.opens.gives in let wrong = none.wrong in absurd (cc (gives, wrong))

-- the moment is one
one_moment : (told : Option (ℕ → ℕ)) (now other : ℕ) (moments : ℕ → ℕ) → IsMoment told now → told ≡ Some moments → other ≡ moments 0 → now ≡ other
one_moment told now other moments moment is same = moment moments is ∙ sym same

-- a run for want of memory
module _ (words : List (List ℕ)) (told : Option (ℕ → ℕ)) (streams : Streams) (files files_now staged staged_now : View) (status : ℕ) where
  pub memory_comes : status ≡ 8 → RunComes words told streams files files_now staged staged_now status
  memory_comes is = record {
    calm = λ calm failed. elim failed as (λ _. ⊥) [ inl three ↦ omega arith | inr other ↦ elim other as (λ _. ⊥) [ inl four ↦ omega arith | inr five ↦ omega arith ] ];
    no_command = λ none. inr is;
    too_large = λ now read number asked calm passes. inr is;
    bad_snapshot = λ now read place asked calm none. inr is;
    long_input = λ now read text asked calm reading reads left over. inr is;
    carried_out = λ now read asked calm reading fits. inr is;
  }

  usage_comes : asks words ≡ false → status ≡ 2 → RunComes words told streams files files_now staged staged_now status
  usage_comes none is = record {
    calm = λ calm failed. elim failed as (λ _. ⊥) [ inl three ↦ omega arith | inr other ↦ elim other as (λ _. ⊥) [ inl four ↦ omega arith | inr five ↦ omega arith ] ];
    no_command = λ _. inl is;
    too_large = λ now read number asked calm passes. absurd (cc (none, asked.some));
    bad_snapshot = λ now read place asked calm wrong. absurd (cc (none, asked.some));
    long_input = λ now read text asked calm reading reads left over. absurd (cc (none, asked.some));
    carried_out = λ now read asked calm reading fits. absurd (cc (none, asked.some));
  }

  -- a disk that failed had its count raised
  module _ (some : asks words ≡ true) where
    failed_comes : status ≡ 5 → Rose files.faults files_now.faults ⊎ Rose staged.faults staged_now.faults → RunComes words told streams files files_now staged staged_now status
    failed_comes is rose =
        let not_calm : IsCalm streams files files_now staged staged_now → ⊥ = λ calm. elim rose as (λ _. ⊥) [
          | inl of_files ↦ let still = calm.at_files in omega arith
          | inr of_staged ↦ let still = calm.at_staged in omega arith
        ] in
        record {
          calm = λ calm failed. not_calm calm;
          no_command = λ none. absurd (cc (none, some));
          too_large = λ now read number asked calm passes. absurd (not_calm calm);
          bad_snapshot = λ now read place asked calm wrong. absurd (not_calm calm);
          long_input = λ now read text asked calm reading reads left over. absurd (not_calm calm);
          carried_out = λ now read asked calm reading fits. absurd (not_calm calm);
        }

    large_comes : status ≡ 10 → ((read : Files) → files.seen ≡ Some read → (number : ℕ) × PassesLimit (drop 2 read) number) → RunComes words told streams files files_now staged staged_now status
    large_comes is why = record {
      calm = λ calm failed. elim failed as (λ _. ⊥) [ inl three ↦ omega arith | inr other ↦ elim other as (λ _. ⊥) [ inl four ↦ omega arith | inr five ↦ omega arith ] ];
      no_command = λ none. absurd (cc (none, some));
      too_large = λ now read number asked calm passes. inl is;
      bad_snapshot = λ now read place asked calm wrong. absurd (within_passes (drop 2 read) _ wrong.within (why read asked.tells).1);
      long_input = λ now read text asked calm reading reads left over. inl is;
      carried_out = λ now read asked calm reading fits. absurd (within_passes (drop 2 read) _ reading.opens.within (why read asked.tells).1);
    }

    wrong_comes : (now : ℕ) → IsMoment told now → status ≡ 12 → ((read : Files) → files.seen ≡ Some read → (place : ℕ) × HasNoReading files.names read now place) → RunComes words told streams files files_now staged staged_now status
    wrong_comes now moment is why =
        let never : (other : ℕ) (read : Files) → IsAsked words told files other read → HasReading files.names read other → ⊥ = λ other read asked reading.
        let wrong = why read asked.tells in
        reads_once files.names read other wrong.0 reading (subst (λ n. HasNoReading files.names read n wrong.0) (one_moment told now other asked.moments moment asked.moment asked.now_is) wrong.1) in
        record {
          calm = λ calm failed. elim failed as (λ _. ⊥) [ inl three ↦ omega arith | inr other ↦ elim other as (λ _. ⊥) [ inl four ↦ omega arith | inr five ↦ omega arith ] ];
          no_command = λ none. absurd (cc (none, some));
          too_large = λ other read number asked calm passes. absurd (within_passes (drop 2 read) number (why read asked.tells).1.within passes);
          bad_snapshot = λ other read place asked calm wrong. inl is;
          long_input = λ other read text asked calm reading reads left over. absurd (never other read asked reading);
          carried_out = λ other read asked calm reading fits. absurd (never other read asked reading);
        }

    shut_comes : (now : ℕ) → IsMoment told now → (shut : Shut) → IsShut shut now files files_now staged staged_now → status ≡ status_of shut → RunComes words told streams files files_now staged staged_now status
    shut_comes now moment DiskFailed why is = failed_comes is why
    shut_comes now moment Memory why is = memory_comes is
    shut_comes now moment TooLarge why is = large_comes is why
    shut_comes now moment BadSnapshot why is = wrong_comes now moment is why

-- a command that was carried out is done or refused
done_or_refused : (refusal : Option Refusal) → (status_by refusal ≡ 0) ⊎ (status_by refusal ≡ 1)
done_or_refused None = inl refl
done_or_refused (Some refusal) = inr refl

-- an input that was read is not too long
not_long : (command : Command) (stream : Stream) (input : List ℕ) → IsInputBy (reads_input command) stream input → is_too_long command input ≡ false
not_long command stream input is = by_reading (reads_input command) stream input is
  where
    by_reading : (b : Bool) (stream : Stream) (input : List ℕ) → IsInputBy b stream input → (b && nat_lt INPUT_LIMIT (length input)) ≡ false
    by_reading true stream input is = let within = is.1 in grind (arith, nat_tests)
    by_reading false stream input is = refl

asked_status : (options : Options) (before : Folder) (command : Command) (stream : Stream) (input : List ℕ) → IsInputBy (reads_input command) stream input
    → ((asked_uci options before (Some command) input).status ≡ 0) ⊎ ((asked_uci options before (Some command) input).status ≡ 1)
asked_status options before command stream input is = rw (not_long command stream input is) (done_or_refused (carried options before command input).refusal)

carried_status : (options : Options) (before : Folder) (asked : Option Command) (stream : Stream) (input : List ℕ) → is_some asked ≡ true → IsInputBy (asks_input asked) stream input
    → ((asked_uci options before asked input).status ≡ 0) ⊎ ((asked_uci options before asked input).status ≡ 1)
carried_status options before None stream input some is = absurd (cc some)
carried_status options before (Some command) stream input some is = asked_status options before command stream input is

status_done : (words : List (List ℕ)) (before : Folder) (stream : Stream) (input : List ℕ) → asks words ≡ true → IsInput words stream input
    → ((uci_done words before input).status ≡ 0) ⊎ ((uci_done words before input).status ≡ 1)
status_done words before stream input some is = carried_status (asked_of words).options before (asked_of words).command stream input some is

-- what was read is what was told
all_told : (left after : Option (List ℕ)) (bytes text : List ℕ) → left ≡ Some text → IsAllThatWasLeft left after bytes → bytes ≡ text
all_told None after bytes text told all = cc told
all_told (Some l) after bytes text told all = let same : l ≡ text = cc told in all.0 ∙ same

read_within : (b : Bool) (stream : Stream) (input text : List ℕ) → b ≡ true → IsInputBy b stream input → stream.old ≡ Some text → INPUT_LIMIT < length text → ⊥
read_within true stream input text reads is left over =
    let same = ap length (all_told stream.old stream.new input text left is.0) in
    let within = is.1 in
    omega arith
read_within false stream input text reads is left over = absurd (cc reads)

fits_once : (words : List (List ℕ)) (left : Option (List ℕ)) → FitsInput words left → reads words ≡ true → HadMoreThan INPUT_LIMIT left → ⊥
fits_once words left fits is more = over left (fits is).0 (fits is).1 (fits is).2 more
  where
    over : (left : Option (List ℕ)) (text : List ℕ) → left ≡ Some text → length text ≤ INPUT_LIMIT → HadMoreThan INPUT_LIMIT left → ⊥
    over None text told within more = cc told
    over (Some l) text told within more = let same : l ≡ text = cc told in let size = ap length same in omega arith

-- the run of a command over the folder that was found
module _ (words : List (List ℕ)) (told : Option (ℕ → ℕ)) (streams : Streams) (files files_now staged staged_now : View) (some : asks words ≡ true) (now : ℕ) (moment : IsMoment told now) (before after : Folder)
    (found : IsFound files staged now before) where
  found_at : (other : ℕ) (read : Files) → IsAsked words told files other read → HasReading files.names read other
  found_at other read asked = record {
    state = before.files;
    opens = subst (λ n. OpensGiving files.names read n before.files) (one_moment told now other asked.moments moment asked.moment asked.now_is) (found.opens read asked.tells);
  }

  -- each ending of it comes where it must, given what its status may be
  ran_comes : (status : ℕ)
      → (IsCalm streams files files_now staged staged_now → (status ≡ 3) ⊎ ((status ≡ 4) ⊎ (status ≡ 5)) → ⊥)
      → ((text : List ℕ) → IsCalm streams files files_now staged staged_now → reads words ≡ true → streams.input.old ≡ Some text → INPUT_LIMIT < length text → OrLacksMemory (status ≡ 10) status)
      → (IsCalm streams files files_now staged staged_now → FitsInput words streams.input.old → OrLacksMemory ((status ≡ 0) ⊎ (status ≡ 1)) status)
      → RunComes words told streams files files_now staged staged_now status
  ran_comes status calmly long carried = record {
    calm = calmly;
    no_command = λ none. absurd (cc (none, some));
    too_large = λ other read number asked calm passes. absurd (within_passes (drop 2 read) number (found_at other read asked).opens.within passes);
    bad_snapshot = λ other read place asked calm wrong. absurd (reads_once files.names read other place (found_at other read asked) wrong);
    long_input = λ other read text asked calm reading is left over. long text calm is left over;
    carried_out = λ other read asked calm reading fits. carried calm fits;
  }

  no_failure : (status : ℕ) → (status ≡ 0) ⊎ (status ≡ 1) → (status ≡ 3) ⊎ ((status ≡ 4) ⊎ (status ≡ 5)) → ⊥
  no_failure status (inl zero) (inl three) = omega arith
  no_failure status (inl zero) (inr (inl four)) = omega arith
  no_failure status (inl zero) (inr (inr five)) = omega arith
  no_failure status (inr one) (inl three) = omega arith
  no_failure status (inr one) (inr (inl four)) = omega arith
  no_failure status (inr one) (inr (inr five)) = omega arith

  no_failure_of : (status least : ℕ) → status ≡ least → 8 ≤ least → (status ≡ 3) ⊎ ((status ≡ 4) ⊎ (status ≡ 5)) → ⊥
  no_failure_of status least is high (inl three) = omega arith
  no_failure_of status least is high (inr (inl four)) = omega arith
  no_failure_of status least is high (inr (inr five)) = omega arith

  opened_comes : (end : UciEnd) (status : ℕ) → Ends words before after streams files files_now staged staged_now end → status ≡ end.status → RunComes words told streams files files_now staged staged_now status
  opened_comes end status (carried_out input is ends out text left) same =
      let by : (status ≡ 0) ⊎ (status ≡ 1) = subst (λ s. (s ≡ 0) ⊎ (s ≡ 1)) (sym (same ∙ ap (λ (e : UciEnd). e.status) ends)) (status_done words before streams.input input some is) in
      ran_comes status (λ calm failed. no_failure status by failed)
      (λ text calm asks_it left over. absurd (read_within (reads words) streams.input input text asks_it is left over))
      (λ calm fits. inl by)
  opened_comes end status (input_too_long asks_it more ends out text left) same =
      let by : status ≡ 10 = same ∙ ap (λ (e : UciEnd). e.status) ends in
      ran_comes status (λ calm failed. no_failure_of status 10 by (omega arith) failed) (λ text calm reads left over. inl by) (λ calm fits. absurd (fits_once words streams.input.old fits asks_it more))
  opened_comes end status (read_failed rose ends out text left) same =
      let never : IsCalm streams files files_now staged staged_now → ⊥ = λ calm. let still = calm.at_input in omega arith in
      ran_comes status (λ calm failed. never calm) (λ text calm reads left over. absurd (never calm)) (λ calm fits. absurd (never calm))
  opened_comes end status (write_failed input is rose ends out text left) same =
      let never : IsCalm streams files files_now staged staged_now → ⊥ = λ calm. let still = calm.at_output in omega arith in
      ran_comes status (λ calm failed. never calm) (λ text calm reads left over. absurd (never calm)) (λ calm fits. absurd (never calm))
  opened_comes end status (disk_failed (inl rose) ends out text) same =
      let never : IsCalm streams files files_now staged staged_now → ⊥ = λ calm. let still = calm.at_files in omega arith in
      ran_comes status (λ calm failed. never calm) (λ text calm reads left over. absurd (never calm)) (λ calm fits. absurd (never calm))
  opened_comes end status (disk_failed (inr rose) ends out text) same =
      let never : IsCalm streams files files_now staged staged_now → ⊥ = λ calm. let still = calm.at_staged in omega arith in
      ran_comes status (λ calm failed. never calm) (λ text calm reads left over. absurd (never calm)) (λ calm fits. absurd (never calm))
  opened_comes end status (no_memory ends out text passed) same =
      let by : status ≡ 8 = same ∙ ap (λ (e : UciEnd). e.status) ends in
      ran_comes status (λ calm failed. no_failure_of status 8 by (omega arith) failed) (λ text calm reads left over. inr by) (λ calm fits. inr by)

pub run_comes : (words : List (List ℕ)) (told : Option (ℕ → ℕ)) (streams : Streams) (files files_now staged staged_now : View) (status : ℕ) → RunEnds words told streams files files_now staged staged_now status
    → RunComes words told streams files files_now staged staged_now status
run_comes words told streams files files_now staged staged_now status (no_command none is out text) = usage_comes words told streams files files_now staged staged_now status none is
run_comes words told streams files files_now staged staged_now status (not_opened some now moment shut why is out text stops) = shut_comes words told streams files files_now staged staged_now status some now moment shut why is
run_comes words told streams files files_now staged staged_now status (opened some now moment before after found end ends is held stops) =
    opened_comes words told streams files files_now staged staged_now some now moment before after found end status ends is
run_comes words told streams files files_now staged staged_now status (words_unread is out text files_stay staged_stay) = memory_comes words told streams files files_now staged staged_now status is
