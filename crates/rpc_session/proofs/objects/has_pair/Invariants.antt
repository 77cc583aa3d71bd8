use Rattle.std.proofs.Common.{◌≡◌, drop}
use Rattle.rpc_session.specs.Objects as spec
use Rattle.rpc_session.proofs.objects.has_pair.Given as goal

-- no item so far is the pair
abbrev pub invariant-loop-item : goal.invariant-loop-item
invariant-loop-item l = spec.has_pair (drop l.item-index l.items) l.grant ≡ spec.has_pair l.items l.grant
