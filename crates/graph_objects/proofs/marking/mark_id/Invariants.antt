use Rattle.std.proofs.Common.{Contains, take}
use Rattle.graph_objects.specs.Marked.{MarkSome}
use Rattle.graph_objects.proofs.marking.mark_id.Given as goal

-- the slots so far are marked
abbrev pub invariant-loop-place : goal.invariant-loop-place
invariant-loop-place l = MarkSome l.slots.entries l.fn.marks l.marks (Contains (take l.place-index l.listed))
