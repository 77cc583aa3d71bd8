-- How slots are kept.
use Rattle.std.specs.Prelude.{length}
use Rattle.graph_objects.specs.declared.slot.Side.TheVariants.{Held}
use Rattle.graph_objects.specs.declared.objects.DeviceObjects.TheInside.{Inside}
use Rattle.graph_objects.specs.Slots.{AreSlots, listed, wishes}
use Rattle.graph_objects.specs.Marks.{Marks}
use Rattle.graph_objects.specs.Marked.{AreMarked}
use Rattle.graph_objects.specs.Deciders.{AreListed, deciders}
use Rattle.graph_objects.specs.Ordered.{IsOrder, HasRoom}

abbrev pub marks_of : Inside → Marks
marks_of objects =
    record { held = listed Held objects.slots.entries; wishes = wishes objects.slots.entries }

-- there are slots by key, those of which an object may be taken or put are marked, and each slot with a wish is listed
-- at the ids that decide it; the order, where it is kept, has what is due, and has room for what is in all slots
pub record IsKept (objects : Inside) : Type 0 where
  pub slots : AreSlots objects.slots.entries
  pub marked : AreMarked objects.marks objects.slots.entries
  pub listed : AreListed objects.by_id.items (deciders objects.slots.entries)
  pub order : IsOrder objects.order objects.slots.entries
  pub room : HasRoom objects.order (length objects.slots.entries)
