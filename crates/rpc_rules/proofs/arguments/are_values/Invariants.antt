use Rattle.std.proofs.Common.{◌≡◌, drop}
use Rattle.rpc_rules.specs.Arguments as spec
use Rattle.rpc_rules.proofs.arguments.are_values.Given as goal

-- the values so far are of their form
abbrev pub invariant-loop-attr : goal.invariant-loop-attr
invariant-loop-attr l = spec.are_values (drop l.attr-index l.attrs) ≡ spec.are_values l.attrs
