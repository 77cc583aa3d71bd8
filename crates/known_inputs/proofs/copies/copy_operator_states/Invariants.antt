use Rattle.std.proofs.Common.{◌≡◌, take}
use Rattle.known_inputs.proofs.copies.copy_operator_states.Given as goal

-- the copies so far
abbrev pub invariant-loop-operator_state : goal.invariant-loop-operator_state
invariant-loop-operator_state l = l.copies ≡ take l.operator_state-index l.operator_states
