use Rattle.std.proofs.Common.{◌≡◌, drop}
use Rattle.rpc_session.specs.Objects as spec
use Rattle.rpc_session.proofs.objects.are_pairs.Given as goal

-- the items so far are pairs
abbrev pub invariant-loop-item : goal.invariant-loop-item
invariant-loop-item l = spec.are_pairs (drop l.item-index l.items) ≡ spec.are_pairs l.items
