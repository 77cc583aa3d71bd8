use Rattle.std.proofs.Common.{◌≡◌, take}
use Rattle.graph_objects.specs.Changed.{each_slot, judged_slot_by}
use Rattle.graph_objects.proofs.judging.judge_each.Given as goal

-- the ids so far are judged by
abbrev pub invariant-loop-id : goal.invariant-loop-id
invariant-loop-id l = l.slots.entries ≡ each_slot (judged_slot_by l.used (take l.id-index l.ids)) l.fn.slots.entries
