-- An apply that waits, disks that fail where files are written, and disks that a call leaves alone.
use Rattle.std.specs.Prelude.{ℕ, ◌≡◌, ◌≢◌, ◌⊎◌, Option, Some, None, Result, Ok, Err, Bool, true, false}
use Rattle.plane_words.specs.Causes.{Rose}
use Rattle.plane_disk.specs.View.{View}
use Rattle.rpc_rules.specs.declared.method.Method.{Method}
use Rattle.rpc_rules.specs.declared.method.Method.TheVariants.{Ask, Stage, Revert, Commit, Apply, Confirm, Rollback}
use Rattle.rpc_rules.specs.declared.rpc_error.RpcError.{RpcError}
use Rattle.rpc_rules.specs.declared.rpc_error.RpcError.TheVariants.{Status, Denied, DiskFailed, Memory}

-- what waits, if anything, is this holder's
abbrev pub IsOwn : ℕ → Option ℕ → Type 0
IsOwn holder None = Unit {0}
IsOwn holder (Some other) = other ≡ holder

-- where a disk failed the count of one of the two rose, and the store refuses calls from then on; else no call has
-- failed
abbrev pub HasDiskCause : {X : Type 0} → Result X RpcError → Bool → View → View → View → View → Type 0
HasDiskCause (Ok x) failed files_old files_new staged_old staged_new = failed ≡ false
HasDiskCause (Err (Status status)) failed files_old files_new staged_old staged_new = failed ≡ false
HasDiskCause (Err (Denied grant)) failed files_old files_new staged_old staged_new = failed ≡ false
HasDiskCause (Err DiskFailed) failed files_old files_new staged_old staged_new =
    (failed ≡ true) × (Rose files_old.faults files_new.faults ⊎ Rose staged_old.faults staged_new.faults)
HasDiskCause (Err Memory) failed files_old files_new staged_old staged_new = failed ≡ false

-- that holds behind a refusal, but where a disk failed
abbrev pub UnlessFailed : Type 0 → RpcError → Type 0
UnlessFailed Untouched error = error ≢ DiskFailed → Untouched

-- The disks that a method leaves alone, whatever comes of it: a question both; what stages, or drops what is staged,
-- the packages; what ends an apply the staged changes.
abbrev pub LeavesAlone : Method → Type 0 → Type 0 → Type 0
LeavesAlone (Ask question) Packages Changes = Packages × Changes
LeavesAlone (Stage edit) Packages Changes = Packages
LeavesAlone Revert Packages Changes = Packages
LeavesAlone Commit Packages Changes = Unit {0}
LeavesAlone Apply Packages Changes = Unit {0}
LeavesAlone Confirm Packages Changes = Changes
LeavesAlone Rollback Packages Changes = Changes

-- a name that is no method's leaves both
abbrev pub CallLeavesAlone : Option Method → Type 0 → Type 0 → Type 0
CallLeavesAlone None Packages Changes = Packages × Changes
CallLeavesAlone (Some method) Packages Changes = LeavesAlone method Packages Changes
