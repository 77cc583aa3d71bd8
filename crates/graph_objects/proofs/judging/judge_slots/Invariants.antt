use Rattle.std.proofs.Common.{◌≡◌}
use Rattle.graph_objects.specs.Changed.{first_slots, judged_slot}
use Rattle.graph_objects.proofs.judging.judge_slots.Given as goal

-- the slots so far are judged
abbrev pub invariant-loop-index : goal.invariant-loop-index
invariant-loop-index l = l.slots.entries ≡ first_slots (judged_slot l.used) l.fn.slots.entries l.index
