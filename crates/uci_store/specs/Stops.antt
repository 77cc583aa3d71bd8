-- What a stop within a call leaves of the files.
use Rattle.std.specs.Prelude.{ℕ, ◌≡◌, ◌≢◌, ◌⊎◌, List}
use Rattle.plane_disk.specs.Files.{Files}
use Rattle.plane_disk.specs.View.{View}
use Rattle.snap_disk.specs.Opened.{State, OpensAs}
use Rattle.snap_disk.specs.Open.{ImagesSince}
use Rattle.uci_store.specs.declared.store.Store.{Store}
use Rattle.uci_store.specs.declared.store_error.StoreError.{StoreError}
use Rattle.uci_store.specs.declared.store_error.StoreError.TheVariants.{Snap}
use Rattle.uci_store.specs.Store.{snap_of, files_of, staged_in}
use Rattle.snap_disk.specs.declared.snap_error.SnapError.TheVariants.{DiskFailed}

-- an image, opened at any moment, gives the files as they were before a call, or files that the call leads to
abbrev pub OpensAsOne : List (List ℕ) → State → (State → Type 0) → Files → Type 0
OpensAsOne names before Leads image =
    OpensAs names before image ⊎ ((after : State) × Leads after × OpensAs names after image)

-- every image since the start of the call does
abbrev pub StopLeaves : Store → View → View → (State → Type 0) → Type 0
StopLeaves store old new Leads = ImagesSince (snap_of store) old new (OpensAsOne old.names (files_of store) Leads)

-- what a refused call leaves: the files as before, and then the disk of staged changes is untouched; or a disk failed
-- and they are those that the call leads to; nothing else has changed
pub record IsLeft (old new : Store) (Leads : State → Type 0) (Untouched : Type 0) (error : StoreError) : Type 0 where
  pub staged : staged_in new ≡ staged_in old
  pub files : ((files_of new ≡ files_of old) × Untouched) ⊎ ((error ≡ Snap DiskFailed) × Leads (files_of new))

-- that holds behind a refusal, but where a disk failed
abbrev pub UnlessFailed : Type 0 → StoreError → Type 0
UnlessFailed Untouched error = error ≢ Snap DiskFailed → Untouched
