use Rattle.std.proofs.Common.{◌≡◌, drop}
use Rattle.std.specs.Ordering.{nat_cmp}
use Rattle.plane_words.specs.InOrder.{ordered}
use Rattle.ubus_state.proofs.numbers.number_set.Given as goal

-- the numbers from here on
abbrev pub invariant-loop-place : goal.invariant-loop-place
invariant-loop-place l = l.set.keys ≡ ordered nat_cmp (drop l.place l.numbers)
