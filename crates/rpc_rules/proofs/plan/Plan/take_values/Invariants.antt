use Rattle.std.proofs.Common.{◌≡◌, drop}
use Rattle.rpc_rules.specs.Plan as spec
use Rattle.rpc_rules.proofs.plan.Plan.take_values.Given as goal

-- the other values are taken by what the values so far made
abbrev pub invariant-loop-attr : goal.invariant-loop-attr
invariant-loop-attr l = spec.values_taken l.name l.section (drop l.attr-index l.attrs) l.self ≡ spec.values_taken l.name l.section l.attrs l.fn.self
