-- Why a store is not opened.
use Rattle.std.specs.Prelude.{ℕ, ◌≡◌, ◌⊎◌, List}
use Rattle.std.specs.List.{AllByRecursion}
use Rattle.plane_words.specs.Causes.{Rose}
use Rattle.plane_disk.specs.View.{View}
use Rattle.snap_disk.specs.Opening.{Refuses}
use Rattle.snap_disk.specs.declared.snap_error.SnapError.TheVariants.{DiskFailed, Memory as SnapMemory}
use Rattle.uci_staged.specs.declared.change.StagedChange.{StagedChange}
use Rattle.uci_store.specs.declared.store_error.StoreError.{StoreError}
use Rattle.uci_store.specs.declared.store_error.StoreError.TheVariants.{Snap, Memory}

-- holder 0 alone has staged something
abbrev pub AreOwn : List StagedChange → Type 0
AreOwn changes = AllByRecursion (λ change. change.holder ≡ 0) changes

-- what opening the files is refused for; one of the disks failed; or there was no memory
abbrev pub OpenRefuses : View → View → View → View → ℕ → StoreError → Type 0
OpenRefuses files_old files_new staged_old staged_new now (Snap DiskFailed) =
    Rose files_old.faults files_new.faults ⊎ Rose staged_old.faults staged_new.faults
OpenRefuses files_old files_new staged_old staged_new now (Snap SnapMemory) = ⊥
OpenRefuses files_old files_new staged_old staged_new now (Snap error) = Refuses files_old files_new now error
OpenRefuses files_old files_new staged_old staged_new now Memory = Unit {0}
OpenRefuses files_old files_new staged_old staged_new now error = ⊥
