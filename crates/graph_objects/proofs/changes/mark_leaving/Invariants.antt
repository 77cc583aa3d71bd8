use Rattle.std.proofs.Common.{◌≡◌}
use Rattle.graph_objects.specs.declared.slot.Side.TheVariants.{Held}
use Rattle.graph_objects.specs.Slots.{set_on}
use Rattle.graph_objects.specs.Changed.{first_slots, marked}
use Rattle.graph_objects.proofs.changes.mark_leaving.Given as goal

-- the slots so far are marked
abbrev pub invariant-loop-index : goal.invariant-loop-index
invariant-loop-index l = l.slots.entries ≡ first_slots (marked (set_on Held l.fn.slots.entries) l.name) l.fn.slots.entries l.index
