use Rattle.std.proofs.Common.{◌≡◌, drop}
use Rattle.rpc_session.specs.Values as spec
use Rattle.rpc_session.proofs.values.has_key.Given as goal

-- no item so far is the name
abbrev pub invariant-loop-item : goal.invariant-loop-item
invariant-loop-item l = spec.has_key (drop l.item-index l.items) l.name ≡ spec.has_key l.items l.name
