-- An apply that waits, and why ending it is refused.
use Rattle.std.specs.Prelude.{ℕ, ◌≡◌, ◌≢◌, ◌⊎◌, true, false, Option, Some, None}
use Rattle.plane_words.specs.Causes.{Rose}
use Rattle.plane_disk.specs.View.{View}
use Rattle.snap_disk.specs.declared.new_file.Pending.{Pending}
use Rattle.snap_disk.specs.declared.snap_error.SnapError.TheVariants.{DiskFailed, NothingWaits, Reopen}
use Rattle.snap_disk.specs.Opened.{State}
use Rattle.snap_disk.specs.Open.{is_due, pending_of, confirmed, rolled_back, ticked}
use Rattle.uci_store.specs.declared.store.Store.{Store}
use Rattle.uci_store.specs.declared.store_error.StoreError.{StoreError}
use Rattle.uci_store.specs.declared.store_error.StoreError.TheVariants.{Snap, NotHolder}
use Rattle.uci_store.specs.Store.{files_of, has_failed}

-- an apply of that holder waits
abbrev pub WaitsFor : ℕ → Option Pending → Type 0
WaitsFor holder None = ⊥
WaitsFor holder (Some pending) = pending.holder ≡ holder

-- no call has failed, and an apply of the holder waits
pub record IsHolders (store : Store) (holder : ℕ) : Type 0 where
  pub ready : has_failed store ≡ false
  pub waits : WaitsFor holder (pending_of (files_of store).waits)

-- the files that a confirm, a rollback and a tick lead to
pub record ConfirmsTo (store : Store) (holder : ℕ) (after : State) : Type 0 where
  pub waits : IsHolders store holder
  pub files : after ≡ confirmed (files_of store)

pub record RollsBackTo (store : Store) (holder : ℕ) (after : State) : Type 0 where
  pub waits : IsHolders store holder
  pub files : after ≡ rolled_back (files_of store)

pub record TicksTo (store : Store) (now : ℕ) (after : State) : Type 0 where
  pub ready : has_failed store ≡ false
  pub files : after ≡ ticked (files_of store) now

-- why the holder has no apply to end
abbrev pub EndStops : Store → ℕ → StoreError → Type 0
EndStops store holder (Snap Reopen) = has_failed store ≡ true
EndStops store holder (Snap NothingWaits) = (has_failed store ≡ false) × (pending_of (files_of store).waits ≡ None)
EndStops store holder (NotHolder other) = (has_failed store ≡ false) × (other ≢ holder)
    × WaitsFor other (pending_of (files_of store).waits)
EndStops store holder error = ⊥

-- why ending it is refused, with the views of the disk before and after
abbrev pub EndRefuses : Store → ℕ → View → View → StoreError → Type 0
EndRefuses store holder old new error =
    EndStops store holder error ⊎ ((error ≡ Snap DiskFailed) × IsHolders store holder × Rose old.faults new.faults)

abbrev pub TickRefuses : Store → ℕ → View → View → StoreError → Type 0
TickRefuses store now old new (Snap DiskFailed) = (has_failed store ≡ false)
    × (is_due (files_of store).waits now ≡ true) × Rose old.faults new.faults
TickRefuses store now old new (Snap Reopen) = has_failed store ≡ true
TickRefuses store now old new error = ⊥
