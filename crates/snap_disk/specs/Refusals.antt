-- When the calls of an object are refused, with the views of the disk before and after.
use Rattle.std.specs.Prelude.{ℕ, ◌≡◌, true, false, Option, Some, None, is_some}
use Rattle.plane_words.specs.Causes.{Rose}
use Rattle.plane_disk.specs.View.{View}
use Rattle.snap_disk.specs.Opened.{Waits}
use Rattle.snap_disk.specs.Open.{state_of, is_due}
use Rattle.snap_disk.specs.declared.snap.Snap.{Snap}
use Rattle.snap_disk.specs.declared.snap_error.SnapError.{SnapError}
use Rattle.snap_disk.specs.declared.snap_error.SnapError.TheVariants.{DiskFailed, Waiting}
use Rattle.snap_disk.specs.declared.snap_error.SnapError.TheVariants.{NothingWaits, Reopen, Memory}

-- no call on the disk has failed
abbrev pub IsGood : Snap → Type 0
IsGood snap = snap.failed ≡ false

abbrev pub NothingIsPending : Snap → Type 0
NothingIsPending snap = (state_of snap).waits ≡ None

abbrev pub SomethingIsPending : Snap → Type 0
SomethingIsPending snap = is_some (state_of snap).waits ≡ true

abbrev pub WaitsUntil : ℕ → Option Waits → Type 0
WaitsUntil deadline None = ⊥
WaitsUntil deadline (Some waits) = deadline ≡ waits.pending.deadline

abbrev pub BeginRefuses : Snap → View → View → SnapError → Type 0
BeginRefuses snap old new DiskFailed =
    IsGood snap × NothingIsPending snap × Rose old.faults new.faults
BeginRefuses snap old new (Waiting deadline) =
    IsGood snap × WaitsUntil deadline (state_of snap).waits
BeginRefuses snap old new Reopen = snap.failed ≡ true
BeginRefuses snap old new Memory = IsGood snap × NothingIsPending snap
BeginRefuses snap old new error = ⊥

-- those of a confirm and of a rollback
abbrev pub EndRefuses : Snap → View → View → SnapError → Type 0
EndRefuses snap old new DiskFailed =
    IsGood snap × SomethingIsPending snap × Rose old.faults new.faults
EndRefuses snap old new NothingWaits = IsGood snap × NothingIsPending snap
EndRefuses snap old new Reopen = snap.failed ≡ true
EndRefuses snap old new error = ⊥

abbrev pub TickRefuses : Snap → ℕ → View → View → SnapError → Type 0
TickRefuses snap now old new DiskFailed =
    IsGood snap × (is_due (state_of snap).waits now ≡ true) × Rose old.faults new.faults
TickRefuses snap now old new Reopen = snap.failed ≡ true
TickRefuses snap now old new error = ⊥
