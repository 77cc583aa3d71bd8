-- Why calls are refused.
use Rattle.std.proofs.Common.{ℕ, Result, ap}
use Rattle.uci_delta.specs.declared.delta.Delta.{Delta}
use Rattle.uci_delta.specs.declared.delta_error.DeltaError.{DeltaError}
use Rattle.uci_delta.specs.declared.delta_error.DeltaError.TheVariants.{NotFound, Invalid, Duplicate, Memory as DeltaMemory}
use Rattle.uci_delta.specs.Applied.{applied}
use Rattle.uci_delta.specs.DeltaError.{IsRefusalOf}
use Rattle.rpc_rules.specs.declared.plan.Plan.{Plan}
use Rattle.rpc_rules.specs.declared.rpc_error.RpcError.{RpcError}
use Rattle.rpc_rules.specs.declared.rpc_error.RpcError.TheVariants.{Status, Denied, DiskFailed, Memory}
use Rattle.rpc_rules.specs.Status.{IsStatusOf, and_then, error_of}
use Rattle.rpc_rules.specs.Plan.{taken, with_delta}

-- what is refused at once is refused in the end
pub status_then : {X Y : Type 0} (first : Result X ℕ) (next : X → Result Y ℕ) (error : RpcError) → IsStatusOf first error → IsStatusOf (and_then first next) error
status_then first next (Status status) is = ap (λ z. and_then z next) is
status_then first next (Denied grant) is = absurd is
status_then first next DiskFailed is = absurd is
status_then first next Memory is = tt

-- a change that a package does not take
pub take_refused : (delta : Delta) (plan : Plan) (error : DeltaError) → IsRefusalOf (applied plan.tree delta) error → IsStatusOf (taken delta plan) (error_of error)
take_refused delta plan NotFound is = ap (with_delta delta plan) is
take_refused delta plan Invalid is = ap (with_delta delta plan) is
take_refused delta plan Duplicate is = ap (with_delta delta plan) is
take_refused delta plan DeltaMemory is = tt
