use Rattle.std.proofs.Common.{◌≡◌, ◌++◌, drop}
use Rattle.rpc_session.specs.Description as spec
use Rattle.rpc_session.proofs.description.functions.Given as goal

-- the functions so far, and then those of the other grants
abbrev pub invariant-loop-grant : goal.invariant-loop-grant
invariant-loop-grant l = l.told ++ spec.functions (drop l.grant-index l.grants) l.scope l.object ≡ spec.functions l.grants l.scope l.object
