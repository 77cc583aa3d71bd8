use Rattle.std.proofs.Common.{◌≡◌, ◌++◌, drop, map}
use Rattle.rpc_rules.specs.Changes as spec
use Rattle.rpc_rules.proofs.changes.package_changes.Given as goal

-- the changes so far, and then the others
abbrev pub invariant-loop-delta : goal.invariant-loop-delta
invariant-loop-delta l = l.items ++ map spec.delta_item (drop l.delta-index l.deltas) ≡ map spec.delta_item l.deltas
