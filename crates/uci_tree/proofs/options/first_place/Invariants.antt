use Rattle.std.proofs.Common.{ℕ, ◌<◌}
use Rattle.uci_tree.specs.Slots.{HoldsAt}
use Rattle.uci_tree.proofs.options.first_place.Given as goal

-- no slot so far has an option of the name
abbrev pub invariant-loop-place : goal.invariant-loop-place
invariant-loop-place l = (k : ℕ) → k < l.place → HoldsAt l.name l.slots k → ⊥
