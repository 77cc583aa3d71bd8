use Rattle.std.proofs.Common.{◌≤◌, length}
use Rattle.graph_objects.proofs.ListedLemmas.{NoneDueFrom}
use Rattle.graph_objects.proofs.order.last_due.Given as goal

-- none of those behind is due
abbrev pub invariant-loop-left : goal.invariant-loop-left
invariant-loop-left l = record {
  none : NoneDueFrom l.turn l.slots.entries l.list l.left;
  within : l.left ≤ length l.list;
}

abbrev pub decreases-loop-left : goal.decreases-loop-left
decreases-loop-left l = l.left
