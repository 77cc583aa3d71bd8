use Rattle.std.proofs.Common.{◌≡◌, drop}
use Rattle.rpc_session.specs.Objects as spec
use Rattle.rpc_session.proofs.objects.with_pairs.Given as goal

-- the grants so far, with those of the other pairs
abbrev pub invariant-loop-item : goal.invariant-loop-item
invariant-loop-item l = spec.with_pairs l.made l.scope (drop l.item-index l.items) ≡ spec.with_pairs l.grants l.scope l.items
