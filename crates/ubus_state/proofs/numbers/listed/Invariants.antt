use Rattle.std.proofs.Common.{◌≡◌, ◌++◌}
use Rattle.ubus_state.proofs.numbers.listed.Given as goal

-- the numbers so far, and those that are left
abbrev pub invariant-loop-number : goal.invariant-loop-number
invariant-loop-number l = l.rising.items ++ l.number-iterator ≡ l.fn.set.keys
