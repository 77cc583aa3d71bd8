-- Why a folder is not opened: what was found, the exit status and the text.
use Rattle.std.specs.Prelude.{ℕ, ◌≡◌, ◌⊎◌, List, drop, Some}
use Rattle.plane_words.specs.Causes.{Rose}
use Rattle.plane_disk.specs.Files.{Files}
use Rattle.plane_disk.specs.View.{View}
use Rattle.snap_disk.specs.Opened.{PassesLimit}
use Rattle.snap_disk.specs.Opening.{HasNoReading}
use Rattle.snap_disk.specs.declared.snap_error.SnapError.TheVariants as snap_error
use Rattle.uci_store.specs.declared.store_error.StoreError.{StoreError}
use Rattle.uci_store.specs.declared.store_error.StoreError.TheVariants as store_error
use Rattle.uci_cli.specs.declared.refusal.TheConstants as texts
use Rattle.uci_tool.specs.declared.shut.Shut.{Shut}
use Rattle.uci_tool.specs.declared.shut.Shut.TheVariants.{DiskFailed, Memory, TooLarge, BadSnapshot}

abbrev pub status_of : Shut → ℕ
status_of DiskFailed = 5
status_of Memory = 8
status_of TooLarge = 10
status_of BadSnapshot = 12

abbrev pub text_of : Shut → List ℕ
text_of DiskFailed = texts.DISK_FAILED.now
text_of Memory = texts.OUT_OF_MEMORY.now
text_of TooLarge = texts.TOO_LARGE.now
text_of BadSnapshot = texts.BAD_SNAPSHOT.now

-- how the refusal of a store to open is told
abbrev pub shut_of : StoreError → Shut
shut_of (store_error.Snap (snap_error.BadSnapshot byte)) = BadSnapshot
shut_of (store_error.Snap (snap_error.Limit number)) = TooLarge
shut_of (store_error.Snap snap_error.Memory) = Memory
shut_of store_error.Memory = Memory
shut_of _ = DiskFailed

-- Its cause, at a moment. A disk failed only where a count rose. Want of memory has none. Where the disk tells its
-- files: these pass a limit, or are within them and have no reading.
abbrev pub IsShut : Shut → ℕ → View → View → View → View → Type 0
IsShut DiskFailed now files files_now staged staged_now =
    Rose files.faults files_now.faults ⊎ Rose staged.faults staged_now.faults
IsShut Memory now files files_now staged staged_now = Unit {0}
IsShut TooLarge now files files_now staged staged_now = (read : Files) → files.seen ≡ Some read → (number : ℕ)
    × PassesLimit (drop 2 read) number
IsShut BadSnapshot now files files_now staged staged_now = (read : Files) → files.seen ≡ Some read → (place : ℕ)
    × HasNoReading files.names read now place
