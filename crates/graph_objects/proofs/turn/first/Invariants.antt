use Rattle.std.proofs.Common.{◌≤◌, ◌-◌, length}
use Rattle.graph_objects.proofs.TurnLemmas.{IsBest}
use Rattle.graph_objects.proofs.turn.first.Given as goal

-- the best of the slots so far
abbrev pub invariant-loop-index : goal.invariant-loop-index
invariant-loop-index l = record {
  best : IsBest l.turn l.slots.entries l.start l.best;
  within : l.start ≤ length l.slots.entries;
}

abbrev pub decreases-loop-index : goal.decreases-loop-index
decreases-loop-index l = length l.slots.entries - l.start
