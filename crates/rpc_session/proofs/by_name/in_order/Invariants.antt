use Rattle.std.proofs.Common.{◌≡◌, ◌++◌, ℕ, List, map}
use Rattle.blob_codec.specs.declared.blob.Blob.{Blob}
use Rattle.rpc_session.specs.Values as spec
use Rattle.rpc_session.proofs.by_name.in_order.Given as goal

-- the values so far, and those that are left
abbrev pub invariant-loop-name : goal.invariant-loop-name
invariant-loop-name l = l.ordered ++ map (λ (e : List ℕ × Blob). record { name = e.0; value = e.1 }) l.name-iterator ≡ spec.in_order l.fn.attrs
