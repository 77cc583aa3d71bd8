-- Statuses of refused calls (OpenWrt's ubus).
use Rattle.std.specs.Prelude.{ℕ, ◌≡◌, Result, Ok, Err}
use Rattle.uci_delta.specs.declared.delta_error.DeltaError.{DeltaError}
use Rattle.uci_delta.specs.declared.delta_error.DeltaError.TheVariants.{NotFound, Invalid, Duplicate}
use Rattle.uci_delta.specs.declared.delta_error.DeltaError.TheVariants.{Memory as DeltaMemory}
use Rattle.rpc_rules.specs.declared.rpc_error.RpcError.{RpcError}
use Rattle.rpc_rules.specs.declared.rpc_error.RpcError.TheVariants.{Status, Denied, DiskFailed, Memory}

-- an argument is missing or of another form, or a file does not read
abbrev pub bad_argument : ℕ
bad_argument = 2

-- there is no such method
abbrev pub no_method : ℕ
no_method = 3

-- a session, a package, a section or an option that is named is not there
abbrev pub not_found : ℕ
not_found = 4

-- nothing is staged, or nothing waits
abbrev pub no_data : ℕ
no_data = 5

-- a package is too large for its file
abbrev pub unknown_error : ℕ
unknown_error = 9

-- the status of a change that a package does not take; want of memory is never why it does not
abbrev pub status_of : DeltaError → ℕ
status_of NotFound = not_found
status_of Invalid = bad_argument
status_of Duplicate = bad_argument
status_of DeltaMemory = unknown_error

-- what a call goes on to do, where it was not refused
abbrev pub and_then : {X Y : Type 0} → Result X ℕ → (X → Result Y ℕ) → Result Y ℕ
and_then (Ok x) next = next x
and_then (Err status) next = Err status

-- the error is the status with which this is refused, or there was no memory
abbrev pub IsStatusOf : {X : Type 0} → Result X ℕ → RpcError → Type 0
IsStatusOf outcome (Status status) = outcome ≡ Err status
IsStatusOf outcome (Denied grant) = ⊥
IsStatusOf outcome DiskFailed = ⊥
IsStatusOf outcome Memory = Unit {0}

-- how a change is refused that a package does not take
abbrev pub error_of : DeltaError → RpcError
error_of NotFound = Status not_found
error_of Invalid = Status bad_argument
error_of Duplicate = Status bad_argument
error_of DeltaMemory = Memory
