-- How a run of OpenWrt's `uci` over a folder ends.
use Rattle.std.specs.Prelude.{ℕ, ◌≡◌, ◌≢◌, true, false, List, Option}
use Rattle.plane_disk.specs.View.{View, Stays}
use Rattle.uci_cli.specs.declared.refusal.TheConstants as texts
use Rattle.uci_tool.specs.declared.tool.UciEnd.{UciEnd}
use Rattle.uci_tool.specs.Folder.{Folder}
use Rattle.uci_tool.specs.Ends.{Streams, IsSilent, IsTold, Tells, Ends}
use Rattle.uci_tool.specs.declared.shut.Shut.{Shut}
use Rattle.uci_tool.specs.Asking.{asks}
use Rattle.uci_tool.specs.Shut.{status_of, text_of, IsShut}
use Rattle.uci_tool.specs.Folders.{IsMoment, IsFound, IsHeld, StopsAsFound, Stops}

-- The words ask for no command. Or the folder is not opened, and why. Or it was opened at a moment, and the command
-- ended over what was found then; unless a disk failed, the disks hold what it left. Or there was no memory to read the
-- words, and the disks are as they were.
pub data RunEnds (words : List (List ℕ)) (told : Option (ℕ → ℕ)) (streams : Streams)
    (files files_now staged staged_now : View) (status : ℕ) : Type 0 where
  no_command : asks words ≡ false → status ≡ 2
      → IsSilent streams.out → Tells words texts.USAGE.now streams.err
      → RunEnds words told streams files files_now staged staged_now status
  not_opened : asks words ≡ true → (now : ℕ) → IsMoment told now → (shut : Shut)
      → IsShut shut now files files_now staged staged_now → status ≡ status_of shut
      → IsSilent streams.out → Tells words (text_of shut) streams.err → StopsAsFound now files files_now
      → RunEnds words told streams files files_now staged staged_now status
  opened : asks words ≡ true → (now : ℕ) → IsMoment told now → (before after : Folder) → IsFound files staged now before
      → (end : UciEnd) → Ends words before after streams files files_now staged staged_now end → status ≡ end.status
      → (status ≢ 5 → IsHeld files_now staged_now after) → Stops words now streams before files files_now
      → RunEnds words told streams files files_now staged staged_now status
  words_unread : status ≡ 8 → IsSilent streams.out → IsTold texts.OUT_OF_MEMORY.now streams.err
      → Stays files files_now → Stays staged staged_now
      → RunEnds words told streams files files_now staged staged_now status
