use Rattle.std.proofs.Common.{◌≡◌, ◌≤◌, ◌-◌, length, vec_len}
use Rattle.std.specs.Prelude.{vec_capacity}
use Rattle.graph_objects.proofs.ListedLemmas.{IsFilled}
use Rattle.graph_objects.proofs.order.fill.Given as goal

-- the list has what is due in the slots so far
abbrev pub invariant-loop-index : goal.invariant-loop-index
invariant-loop-index l = record {
  filled : IsFilled l.turn l.slots.entries l.start l.list.items;
  within : l.start ≤ length l.slots.entries;
  count : vec_len l.list ≤ l.start;
  capacity : vec_capacity l.list ≡ vec_capacity l.fn.list;
}

abbrev pub decreases-loop-index : goal.decreases-loop-index
decreases-loop-index l = length l.slots.entries - l.start
