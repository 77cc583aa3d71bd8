use Rattle.std.proofs.Common.{◌≡◌, ◌++◌, drop, map}
use Rattle.rpc_rules.specs.Told as spec
use Rattle.rpc_rules.proofs.told.option_values.Given as goal

-- the options so far, and then the others
abbrev pub invariant-loop-option : goal.invariant-loop-option
invariant-loop-option l = l.values.items ++ map spec.option_value (drop l.option-index l.options) ≡ map spec.option_value l.options
