use Rattle.std.proofs.Common.{◌≡◌, ◌++◌, map}
use Rattle.rpc_session.specs.Description as spec
use Rattle.rpc_session.proofs.description.acls.Given as goal

-- the scopes so far, and then the others
abbrev pub invariant-loop-scope : goal.invariant-loop-scope
invariant-loop-scope l = l.told ++ map (spec.scope_item l.grants) l.scope-iterator ≡ spec.acls l.grants
