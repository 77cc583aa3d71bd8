-- When a run of OpenWrt's `uci` over a folder ends so.
use Rattle.std.specs.Prelude.{ℕ, ◌≡◌, ◌<◌, ◌≤◌, ◌⊎◌, true, false, List, length, drop, Option, Some}
use Rattle.plane_words.specs.Causes.{DidNotRise}
use Rattle.plane_io.specs.declared.input.TheConstants.{INPUT_LIMIT}
use Rattle.plane_disk.specs.Files.{Files}
use Rattle.plane_disk.specs.View.{View}
use Rattle.snap_disk.specs.Opened.{PassesLimit, State}
use Rattle.snap_disk.specs.Opening.{OpensGiving, HasNoReading}
use Rattle.uci_tool.specs.Ends.{Streams, reads}
use Rattle.uci_tool.specs.Asking.{asks}

-- no count of the input, the output or a disk rose
pub record IsCalm (streams : Streams) (files files_now staged staged_now : View) : Type 0 where
  pub at_input : DidNotRise streams.input.faults streams.input.faults_now
  pub at_output : DidNotRise streams.out.faults streams.out.faults_now
  pub at_files : DidNotRise files.faults files_now.faults
  pub at_staged : DidNotRise staged.faults staged_now.faults

-- that, or want of memory
abbrev pub OrLacksMemory : Type 0 → ℕ → Type 0
OrLacksMemory fact status = fact ⊎ (status ≡ 8)

-- the words ask for a command, the clock told the moment of the run, and the disk of the packages its files
pub record IsAsked (words : List (List ℕ)) (told : Option (ℕ → ℕ)) (files : View) (now : ℕ) (read : Files)
    : Type 0 where
  pub some : asks words ≡ true
  pub moments : ℕ → ℕ
  pub moment : told ≡ Some moments
  pub now_is : now ≡ moments 0
  pub tells : files.seen ≡ Some read

-- the files are within their limits, and have a reading
pub record HasReading (names : List (List ℕ)) (read : Files) (now : ℕ) : Type 0 where
  pub state : State
  pub opens : OpensGiving names read now state

-- the input is within its limit, where the command reads it
abbrev pub FitsInput : List (List ℕ) → Option (List ℕ) → Type 0
FitsInput words left = reads words ≡ true → (text : List ℕ) × (left ≡ Some text) × (length text ≤ INPUT_LIMIT)

-- When a run ends so. Want of memory may come in place of each ending.
pub record RunComes (words : List (List ℕ)) (told : Option (ℕ → ℕ)) (streams : Streams)
    (files files_now staged staged_now : View) (status : ℕ) : Type 0 where
  -- where no count rose, no device is told to have failed
  pub calm : IsCalm streams files files_now staged staged_now → (status ≡ 3) ⊎ ((status ≡ 4) ⊎ (status ≡ 5)) → ⊥
  -- words that request for no command
  pub no_command : asks words ≡ false → OrLacksMemory (status ≡ 2) status
  -- files that pass a limit, unless a count of a disk rose
  pub too_large : (now : ℕ) (read : Files) (number : ℕ) → IsAsked words told files now read
      → IsCalm streams files files_now staged staged_now
      → PassesLimit (drop 2 read) number → OrLacksMemory (status ≡ 10) status
  -- files without a reading
  pub bad_snapshot : (now : ℕ) (read : Files) (place : ℕ) → IsAsked words told files now read
      → IsCalm streams files files_now staged staged_now
      → HasNoReading files.names read now place → OrLacksMemory (status ≡ 12) status
  -- an input that is longer than it may be
  pub long_input : (now : ℕ) (read : Files) (text : List ℕ) → IsAsked words told files now read
      → IsCalm streams files files_now staged staged_now
      → HasReading files.names read now → reads words ≡ true → streams.input.old ≡ Some text → INPUT_LIMIT < length text
      → OrLacksMemory (status ≡ 10) status
  -- and else the command is carried out: it is done, or refused
  pub carried_out : (now : ℕ) (read : Files) → IsAsked words told files now read
      → IsCalm streams files files_now staged staged_now
      → HasReading files.names read now → FitsInput words streams.input.old
      → OrLacksMemory ((status ≡ 0) ⊎ (status ≡ 1)) status
