use Rattle.std.proofs.Common.{◌≡◌, drop}
use Rattle.rpc_session.specs.Values as values
use Rattle.rpc_rules.proofs.arguments.are_texts.Given as goal

-- the items so far are texts
abbrev pub invariant-loop-item : goal.invariant-loop-item
invariant-loop-item l = values.are_texts (drop l.item-index l.items) ≡ values.are_texts l.items
