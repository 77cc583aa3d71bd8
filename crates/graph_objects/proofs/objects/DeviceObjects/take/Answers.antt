use Rattle.std.proofs.Common.{arith, ap, sym, subst, ◌∙◌}
use Rattle.std.specs.FinSet as set
use Rattle.kern_model.specs.ObjectOrder.{Has}
use Rattle.graph_objects.specs.Marks.{Marks, held_of}
use Rattle.graph_objects.specs.Deciders.{AreListed}
use Rattle.graph_objects.proofs.DeciderLemmas.{as_many_slots}
use Rattle.graph_objects.proofs.MarkedLemmas.{wanted_same}
use Rattle.graph_objects.proofs.ListedLemmas.{takes_go_on, puts_go_on}
use Rattle.graph_objects.proofs.objects.DeviceObjects.take.Goals as goal

pub take-requires-clause-held : goal.take-requires-clause-held
take-requires-clause-held c = subst (λ (m : Marks). Has (held_of m) c.args.object.now) (sym c.self.view_is) c.requires

pub returns-clause-held : goal.returns-clause-held
returns-clause-held c = c.take.ensures.held ∙ ap (λ (m : Marks). set.remove (held_of m) c.args.object.now) c.self.view_is

pub returns-clause-wishes : goal.returns-clause-wishes
returns-clause-wishes c = c.take.ensures.wishes ∙ ap (λ (m : Marks). m.wishes) c.self.view_is

pub invariant_of-self : goal.invariant_of-self
invariant_of-self c =
    let es = c.self.inside.slots.entries in
    let now = c.take.new.slots.entries in
    let wanted = wanted_same es now c.take.ensures.wishes in
    let size = as_many_slots es now c.take.ensures.deciders in
    record {
      slots = c.take.ensures.slots;
      marked = c.take.ensures.marked;
      listed = subst (AreListed c.self.inside.by_id.items) (sym c.take.ensures.deciders) c.self.invariant.listed;
      order = record {
        takes = λ kept. c.drop_done.ensures.listed (takes_go_on es now wanted size c.args.object.now c.take.ensures.held c.take.ensures.steady (c.is_next-stays.ensures.first kept) c.self.inside.order.takes.items
            (c.self.invariant.order.takes (c.is_next-stays.ensures.kept kept)));
        puts = λ kept. puts_go_on es now wanted size c.args.object.now c.take.ensures.held c.take.ensures.steady (c.is_next-stays.ensures.first kept) c.self.inside.order.puts.items
            (c.self.invariant.order.puts (c.is_next-stays.ensures.kept kept));
      };
      room = record { few = omega (arith, c.self.invariant.room.few, size); takes = omega (arith, c.self.invariant.room.takes, size, c.drop_done.ensures.capacity); puts = omega (arith, c.self.invariant.room.puts, size) };
    }
