-- Numbers of errors, and what a call answers that a disk's part has refused.
use Rattle.std.specs.Prelude.{ℕ, ◌≡◌, Bool, true}
use Rattle.snap_disk.specs.declared.snap_error.SnapError.{SnapError}
use Rattle.snap_disk.specs.declared.snap_error.SnapError.TheVariants.{DiskFailed, Memory as SnapMemory}
use Rattle.uci_staged.specs.declared.staged_error.StagedError.{StagedError}
use Rattle.uci_staged.specs.declared.staged_error.StagedError.TheVariants.{DiskFailed as StagedFailed}
use Rattle.uci_staged.specs.declared.staged_error.StagedError.TheVariants.{Memory as StagedMemory}
use Rattle.snap_disk.specs.SnapError.{number_of as snap_number}
use Rattle.uci_delta.specs.DeltaError.{number_of as delta_number}
use Rattle.uci_store.specs.declared.store_error.StoreError.{StoreError}
use Rattle.uci_store.specs.declared.store_error.StoreError.TheVariants.{Snap, NoPackage, Parse, Delta, TooLarge}
use Rattle.uci_store.specs.declared.store_error.StoreError.TheVariants.{NotHolder, NothingStaged, Memory}

-- those of a snapshot and of a delta are theirs; 35 to 39 are the store's own, and 8 is for memory
abbrev pub number_of : StoreError → ℕ
number_of (Snap error) = snap_number error
number_of NoPackage = 35
number_of (Parse error) = 36
number_of (Delta error) = delta_number error
number_of (TooLarge bytes) = 37
number_of (NotHolder holder) = 38
number_of NothingStaged = 39
number_of Memory = 8

-- the answer where the snapshot has refused, and whether the store has failed before and after: it has where the disk
-- failed
abbrev pub IsAnswer : SnapError → StoreError → Bool → Bool → Type 0
IsAnswer DiskFailed answer old new = (answer ≡ Snap DiskFailed) × (new ≡ true)
IsAnswer SnapMemory answer old new = (answer ≡ Memory) × (new ≡ old)
IsAnswer error answer old new = (answer ≡ Snap error) × (new ≡ old)

-- and where the disk of staged changes has
abbrev pub IsDiskAnswer : StagedError → StoreError → Bool → Bool → Type 0
IsDiskAnswer StagedFailed answer old new = (answer ≡ Snap DiskFailed) × (new ≡ true)
IsDiskAnswer StagedMemory answer old new = (answer ≡ Memory) × (new ≡ old)
