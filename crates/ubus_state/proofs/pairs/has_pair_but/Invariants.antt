use Rattle.std.proofs.Common.{ℕ, ◌≡◌, ◌==◌, not}
use Rattle.std.specs.Prelude.{◌&&◌}
use Rattle.std.specs.List.{list_any}
use Rattle.ubus_state.specs.Pairs.{has_first}
use Rattle.ubus_state.proofs.pairs.has_pair_but.Given as goal

-- what is asked of the pairs that are left is asked of all
abbrev pub invariant-loop-pair : goal.invariant-loop-pair
invariant-loop-pair l =
    list_any (λ (pair : ℕ × ℕ). not (pair.1 == l.second)) l.pair-iterator
    ≡ list_any (λ (pair : ℕ × ℕ). has_first l.first pair && not (pair.1 == l.second)) l.pairs.keys
