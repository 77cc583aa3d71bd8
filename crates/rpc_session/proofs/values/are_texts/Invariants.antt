use Rattle.std.proofs.Common.{◌≡◌, drop}
use Rattle.rpc_session.specs.Values as spec
use Rattle.rpc_session.proofs.values.are_texts.Given as goal

-- the items so far are texts
abbrev pub invariant-loop-item : goal.invariant-loop-item
invariant-loop-item l = spec.are_texts (drop l.item-index l.items) ≡ spec.are_texts l.items
