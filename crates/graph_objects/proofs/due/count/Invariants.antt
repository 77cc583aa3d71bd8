use Rattle.std.proofs.Common.{◌≡◌, ◌≤◌, ◌-◌, length}
use Rattle.graph_objects.proofs.DueLemmas.{counted_first}
use Rattle.graph_objects.proofs.due.count.Given as goal

-- the count of the slots so far
abbrev pub invariant-loop-index : goal.invariant-loop-index
invariant-loop-index l = record {
  count : l.count ≡ counted_first l.slots.entries l.start;
  within : l.start ≤ length l.slots.entries;
}

abbrev pub decreases-loop-index : goal.decreases-loop-index
decreases-loop-index l = length l.slots.entries - l.start
