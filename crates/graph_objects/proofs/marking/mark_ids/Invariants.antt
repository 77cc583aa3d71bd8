use Rattle.std.proofs.Common.{take}
use Rattle.graph_objects.specs.Deciders.{IsListed}
use Rattle.graph_objects.specs.Marked.{MarkSome}
use Rattle.graph_objects.proofs.marking.mark_ids.Given as goal

-- the slots of the ids so far are marked
abbrev pub invariant-loop-id : goal.invariant-loop-id
invariant-loop-id l = MarkSome l.slots.entries l.fn.marks l.marks (IsListed l.by_id (take l.id-index l.ids))
