-- How a run of the program ends, and when: by cases on its command. A command adds a case to `CommandEnds` and to
-- `CommandComes`, and in `Command` a case to the words that request for it and to what it reads and calls.
use Rattle.std.specs.Prelude.{ℕ, ◌≡◌, List}
use Rattle.plane_main.specs.declared.command.Command.{Command}
use Rattle.plane_main.specs.declared.command.Command.TheVariants.{Start, Uci, Run, Gen, Show}
use Rattle.plane_main.specs.declared.ending.Ending.{Ending}
use Rattle.plane_main.specs.declared.ending.Ending.TheVariants as ending
use Rattle.plane_main.specs.Outside.{Seen}
use Rattle.plane_main.specs.Command.{AskFor, IsCommand, IsForUci, IsInTable, IsPageCommand, IsRunCommand, AskForNone}
use Rattle.plane_main.specs.Command.{ReadsInput, CallsKernel, OpensFolders, AsksClock, WritesFirst}
use Rattle.plane_main.specs.Ending.{status_of, text_of, IsTold, IsOfUci, IsOfRun, IsEarly, OrLacksMemory}
use Rattle.plane_main.specs.Start.{StartEnds, StartComes}
use Rattle.plane_main.specs.Uci.{UciEnds, UciComes}
use Rattle.plane_main.specs.Script.{AskedEnds, AskedComes}
use Rattle.plane_main.specs.Generated.{GenEnds, GenComes}
use Rattle.plane_main.specs.Page.{PageEnds, PageComes}

-- why a run of a command ends so, and what it leaves
abbrev pub CommandEnds : Command → Seen → Ending → Type 0
CommandEnds (Start devices) seen end = StartEnds devices seen.input seen.before seen.after end
CommandEnds (Uci words) seen end = UciEnds words seen end
CommandEnds (Run asked) seen end = AskedEnds asked seen end
CommandEnds (Gen count) seen end = GenEnds count seen.before seen.after end
CommandEnds (Show page) seen end = PageEnds page seen.before seen.after end

-- when a run of a command ends so
abbrev pub CommandComes : Command → Seen → Ending → Type 0
CommandComes (Start devices) seen end =
    StartComes devices seen.input seen.before seen.after end
CommandComes (Uci words) seen end = UciComes words seen end
CommandComes (Run asked) seen end = OrLacksMemory (AskedComes asked seen end) end
CommandComes (Gen count) seen end = GenComes seen.before seen.after end
CommandComes (Show page) seen end = PageComes seen.before seen.after end

-- why a run ends so, and what it leaves, where `rests` says that the input, the disks and the clock are the values that
-- they were
pub data Ends (words : List (List ℕ)) (seen : Seen) (rests : Type 0) (end : Ending) : Type 0 where
  -- the words ask for a command, and it ended so
  of_command : (command : Command) → AskFor words command → CommandEnds command seen end → Ends words seen rests end
  -- they ask for none
  of_no_command : (IsCommand words → ⊥) → end ≡ ending.Usage → Ends words seen rests end
  -- memory was lacking while they were read, the access list of a run too, which takes none for a page
  of_unread_words : (IsPageCommand words → ⊥) → seen.after ≡ seen.before → rests → end ≡ ending.OutOfMemory
      → Ends words seen rests end

-- when a run ends so
pub record Comes (words : List (List ℕ)) (seen : Seen) (end : Ending) : Type 0 where
  pub command : (command : Command) → AskFor words command → CommandComes command seen end
  pub no_command : (IsCommand words → ⊥) → OrLacksMemory (end ≡ ending.Usage) end

-- A run ends with an ending, whose status is the answer: it has its cause, it comes where it must, and its text is on
-- the error output, unless it is one of `uci`, whose cause says what is there.
pub record Ended (words : List (List ℕ)) (seen : Seen) (rests : Type 0) (answer : ℕ) : Type 0 where
  pub end : Ending
  pub status : status_of end ≡ answer
  pub cause : Ends words seen rests end
  pub comes : Comes words seen end
  pub told : (IsOfUci end → ⊥) → IsTold (text_of end) seen.errors

-- the devices of a run: the input, the output, the kernel, the disks of the packages and of staged changes, and the
-- clock
pub record Devices (S O K D T C : Type 0) : Type 0 where
  pub input : S
  pub out : O
  pub kernel : K
  pub files : D
  pub staged : T
  pub clock : C

-- Which of them a run leaves wholly alone, as the values that they are.
pub record LeavesAlone {S O K D T C : Type 0} (words : List (List ℕ)) (end : Ending)
    (before after : Devices S O K D T C) : Type 0 where
  -- no other run ends as one of `uci` or one of a script does
  pub of_uci : IsOfUci end → IsForUci words
  pub of_run : IsOfRun end → IsRunCommand words
  pub input : AskForNone ReadsInput words → after.input ≡ before.input
  pub out : IsEarly end → after.out ≡ before.out
  pub out_unfilled : AskForNone WritesFirst words → end ≡ ending.OutOfMemory → after.out ≡ before.out
  pub out_unasked : (IsInTable words → ⊥) → after.out ≡ before.out
  pub kernel : IsEarly end → after.kernel ≡ before.kernel
  pub kernel_unasked : AskForNone CallsKernel words → after.kernel ≡ before.kernel
  pub files : AskForNone OpensFolders words → after.files ≡ before.files
  pub staged : AskForNone OpensFolders words → after.staged ≡ before.staged
  pub clock : AskForNone AsksClock words → after.clock ≡ before.clock

-- a run with this answer leaves those devices alone
pub record LeftAlone {S O K D T C : Type 0} (words : List (List ℕ)) (answer : ℕ) (before after : Devices S O K D T C)
    : Type 0 where
  pub end : Ending
  pub status : status_of end ≡ answer
  pub alone : LeavesAlone words end before after
