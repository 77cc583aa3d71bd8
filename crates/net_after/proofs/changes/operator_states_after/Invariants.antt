use Rattle.std.proofs.Common.{◌≡◌, ◌++◌}
use Rattle.std.specs.Prelude.{filter, not, bytes_eq}
use Rattle.std.specs.Vec.Iter.{into_iter_items}
use Rattle.net_after.proofs.changes.operator_states_after.Given as goal

-- the other operator states so far, and those that are left
abbrev pub invariant-loop-operator_state : goal.invariant-loop-operator_state
invariant-loop-operator_state l = l.now ++ filter (λ c. not (bytes_eq c.interface l.fn.interface)) (into_iter_items l.operator_state-iterator) ≡ filter (λ c. not (bytes_eq c.interface l.fn.interface)) l.fn.operator_states
