use Rattle.std.proofs.Common.{◌≡◌, ◌++◌}
use Rattle.net_rules.specs.Need.{in_order}
use Rattle.net_after.proofs.order.in_order.Given as goal

-- the options so far, and those that are left
abbrev pub invariant-loop-option : goal.invariant-loop-option
invariant-loop-option l = l.ordered ++ l.option-iterator ≡ in_order l.options
