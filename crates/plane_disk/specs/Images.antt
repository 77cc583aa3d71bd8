-- What a crash may leave of a disk in memory: its images. Between two syncs each byte that was written, and each past
-- an old end, may be any byte; every other byte is as it was at the last sync. The size lies between the least and the
-- greatest since then. A call that failed counts like one that was done, since it may have been done in part.
use Rattle.std.specs.Prelude.{ℕ, ◌≡◌, ◌≤◌, ◌<◌, ◌+◌, ◌&&◌, min, max, Bool, false, List, length, take, slice_index}
use Rattle.std.specs.Prelude.{nat_eq, nat_le, nat_lt, if◌then◌else◌}
use Rattle.std.specs.List.{fold, list_any}
use Rattle.plane_disk.specs.Files.{Files, bytes_of}
use Rattle.plane_disk.specs.Calls.{DiskState, at_first, after_calls}
use Rattle.plane_disk.specs.declared.call.DiskCall.{DiskCall}
use Rattle.plane_disk.specs.declared.call.DiskCall.TheVariants.{Write, Cut}

-- whether a call writes that place of that file
abbrev pub is_written_by : ℕ → ℕ → DiskCall → Bool
is_written_by file place (Write other at bytes done) =
    nat_eq other file && nat_le at place && nat_lt place (at + length bytes)
is_written_by file place call = false

-- the least size of a file, and the greatest, with one more call
abbrev pub least_with : ℕ → ℕ → DiskCall → ℕ
least_with file least (Cut other size done) = if nat_eq other file then min least size else least
least_with file least call = least

abbrev pub greatest_with : ℕ → ℕ → DiskCall → ℕ
greatest_with file greatest (Write other at bytes done) =
    if nat_eq other file then max greatest (at + length bytes) else greatest
greatest_with file greatest call = greatest

-- the least size, and the greatest, since a sync after which the file had these bytes
abbrev pub least_size : ℕ → List ℕ → List DiskCall → ℕ
least_size file synced since = fold (least_with file) (length synced) since

abbrev pub greatest_size : ℕ → List ℕ → List DiskCall → ℕ
greatest_size file synced since = fold (greatest_with file) (length synced) since

-- bytes that a crash may leave of one file
pub record IsImageOf (file : ℕ) (synced : List ℕ) (since : List DiskCall)
    (bytes : List ℕ) : Type 0 where
  pub no_shorter : least_size file synced since ≤ length bytes
  pub no_longer : length bytes ≤ greatest_size file synced since
  pub stays : (place : ℕ) → place < least_size file synced since
      → list_any (is_written_by file place) since ≡ false
      → slice_index bytes place ≡ slice_index synced place

-- files that a crash may leave
pub record IsImage (state : DiskState) (files : Files) : Type 0 where
  pub count : length files ≡ length state.synced
  pub each : (file : ℕ) → file < length files
      → IsImageOf file (bytes_of state.synced file) state.since (bytes_of files file)

-- files that a crash may have left at some moment from that one on: moments count the calls
pub record WasImage (start : Files) (calls : List DiskCall) (from : ℕ) (files : Files) : Type 0 where
  pub moment : ℕ
  pub since : from ≤ moment
  pub past : moment ≤ length calls
  pub image : IsImage (after_calls (at_first start) (take moment calls)) files
