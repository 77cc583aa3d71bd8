use Rattle.std.proofs.Common.{◌≡◌}
use Rattle.graph_objects.specs.Changed.{first_slots, slot_below}
use Rattle.graph_objects.proofs.forgetting.keep_below.Given as goal

-- the slots so far have what is kept
abbrev pub invariant-loop-index : goal.invariant-loop-index
invariant-loop-index l = l.slots.entries ≡ first_slots (slot_below l.count) l.fn.slots.entries l.index
