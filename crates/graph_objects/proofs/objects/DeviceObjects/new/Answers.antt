use Rattle.std.proofs.Common.{arith, length, ap, sym, subst}
use Rattle.graph_objects.specs.Slots.{AreSlots, Entries}
use Rattle.graph_objects.specs.Marked.{AreMarked}
use Rattle.graph_objects.proofs.SlotLemmas.{no_slots}
use Rattle.graph_objects.proofs.MarkedLemmas.{none_marked}
use Rattle.graph_objects.specs.Deciders.{AreListed, deciders}
use Rattle.graph_objects.proofs.DeciderLemmas.{none_listed}
use Rattle.graph_objects.proofs.objects.DeviceObjects.new.Goals as goal

pub invariant_of-result : goal.invariant_of-result
invariant_of-result c = record {
  slots = subst AreSlots (sym c.new.ensures.empty) no_slots;
  marked = subst (λ (es : Entries). AreMarked c.new-2.result es) (sym c.new.ensures.empty) (none_marked c.new-2.result);
  listed = subst (λ (es : Entries). AreListed c.new-3.result.items (deciders es)) (sym c.new.ensures.empty) (none_listed c.new-3.result.items c.new-3.ensures.items);
  order = record { takes = λ kept. absurd (cc (kept, c.no_order.ensures)); puts = λ kept. absurd (cc (kept, c.no_order.ensures)) };
  room = record { few = omega (arith, ap length c.new.ensures.empty); takes = omega (arith, ap length c.new.ensures.empty); puts = omega (arith, ap length c.new.ensures.empty) };
}
