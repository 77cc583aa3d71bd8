use Rattle.std.proofs.Common.{◌≡◌, ◌++◌, map}
use Rattle.rpc_session.specs.Description as spec
use Rattle.rpc_session.proofs.description.object_items.Given as goal

-- the objects so far, and then the others
abbrev pub invariant-loop-object : goal.invariant-loop-object
invariant-loop-object l = l.told ++ map (spec.object_item l.grants l.scope) l.object-iterator ≡ spec.object_items l.grants l.scope
