-- How refusals of a store are told.
use Rattle.snap_disk.specs.declared.snap_error.SnapError.{SnapError}
use Rattle.snap_disk.specs.declared.snap_error.SnapError.TheVariants.{DiskFailed as SnapFailed, Waiting, NothingWaits}
use Rattle.snap_disk.specs.declared.snap_error.SnapError.TheVariants.{BadSnapshot, Reopen, Limit, Memory as SnapMemory}
use Rattle.uci_store.specs.declared.store_error.StoreError.{StoreError}
use Rattle.uci_store.specs.declared.store_error.StoreError.TheVariants.{Snap, NoPackage, Parse, Delta, TooLarge}
use Rattle.uci_store.specs.declared.store_error.StoreError.TheVariants.{NotHolder, NothingStaged, Memory as StoreMemory}
use Rattle.rpc_rules.specs.declared.rpc_error.RpcError.{RpcError}
use Rattle.rpc_rules.specs.declared.rpc_error.RpcError.TheVariants.{Status, DiskFailed, Memory}
use Rattle.rpc_rules.specs.Status.{bad_argument, not_found, no_data, unknown_error, error_of}

-- that nothing waits is a status; any other refusal of a snapshot comes of a disk that failed
abbrev pub snap_told : SnapError → RpcError
snap_told NothingWaits = Status no_data
snap_told SnapMemory = Memory
snap_told SnapFailed = DiskFailed
snap_told Reopen = DiskFailed
snap_told (Waiting deadline) = DiskFailed
snap_told (BadSnapshot byte) = DiskFailed
snap_told (Limit number) = DiskFailed

abbrev pub store_told : StoreError → RpcError
store_told (Snap error) = snap_told error
store_told NoPackage = Status not_found
store_told (Parse error) = Status bad_argument
store_told (Delta error) = error_of error
store_told (TooLarge bytes) = Status unknown_error
store_told (NotHolder holder) = Status no_data
store_told NothingStaged = Status no_data
store_told StoreMemory = Memory
