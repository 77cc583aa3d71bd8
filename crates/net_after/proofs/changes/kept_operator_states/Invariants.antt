use Rattle.std.proofs.Common.{◌≡◌, ◌++◌}
use Rattle.std.specs.Vec.Iter.{into_iter_items}
use Rattle.net_rules.specs.After.{kept_operator_states}
use Rattle.net_after.proofs.changes.kept_operator_states.Given as goal

-- the operator states so far, and those of the others that stay
abbrev pub invariant-loop-operator_state : goal.invariant-loop-operator_state
invariant-loop-operator_state l = l.kept ++ kept_operator_states l.conf (into_iter_items l.operator_state-iterator) ≡ kept_operator_states l.conf l.fn.operator_states
