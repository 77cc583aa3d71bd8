use Rattle.std.proofs.Common.{◌≤◌, length}
use Rattle.given_objects.specs.Inside.{listed}
use Rattle.given_objects.proofs.OrderedLemmas.{NoneDueFrom}
use Rattle.given_objects.proofs.order.last_due.Given as goal

-- none of those behind is due
abbrev pub invariant-loop-left : goal.invariant-loop-left
invariant-loop-left l = record {
  none : NoneDueFrom l.turn (listed l.table.entries) l.list l.left;
  within : l.left ≤ length l.list;
}

abbrev pub decreases-loop-left : goal.decreases-loop-left
decreases-loop-left l = l.left
