use Rattle.std.proofs.Common.{◌≡◌}
use Rattle.graph_objects.specs.Changed.{first_slots, let_go}
use Rattle.graph_objects.specs.Marked.{AreMarked}
use Rattle.graph_objects.proofs.changes.let_go.Given as goal

-- what leaves the slots so far is let go
abbrev pub invariant-loop-index : goal.invariant-loop-index
invariant-loop-index l = record {
  slots : l.slots.entries ≡ first_slots let_go l.fn.slots.entries l.index;
  marked : AreMarked l.marks l.slots.entries;
}
