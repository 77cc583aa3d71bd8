use Rattle.std.proofs.Common.{◌≡◌, drop}
use Rattle.rpc_rules.specs.Plan as spec
use Rattle.rpc_rules.proofs.plan.Plan.take_items.Given as goal

-- the other items are taken by what the items so far made
abbrev pub invariant-loop-item : goal.invariant-loop-item
invariant-loop-item l = spec.items_taken l.name l.section l.option (drop l.item-index l.items) l.self ≡ spec.items_taken l.name l.section l.option l.items l.fn.self
