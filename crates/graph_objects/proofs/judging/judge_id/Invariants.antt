use Rattle.std.proofs.Common.{[], ◌∷◌, take}
use Rattle.graph_objects.specs.Changed.{judged_slot_by}
use Rattle.graph_objects.proofs.JudgeLemmas.{WrittenSoFar}
use Rattle.graph_objects.proofs.judging.judge_id.Given as goal

-- the slots so far are judged
abbrev pub invariant-loop-place : goal.invariant-loop-place
invariant-loop-place l = WrittenSoFar (judged_slot_by l.used (l.id ∷ [])) l.fn.slots.entries l.slots.entries (take l.place-index l.listed)
