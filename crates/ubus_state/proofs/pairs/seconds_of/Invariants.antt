use Rattle.std.proofs.Common.{ℕ, ◌≡◌, ◌++◌, map}
use Rattle.ubus_state.specs.Pairs.{seconds_in}
use Rattle.ubus_state.proofs.pairs.seconds_of.Given as goal

-- the numbers so far, and those that are left
abbrev pub invariant-loop-pair : goal.invariant-loop-pair
invariant-loop-pair l = l.numbers.items ++ map (λ (pair : ℕ × ℕ). pair.1) l.pair-iterator ≡ seconds_in l.first l.pairs.keys
