use Rattle.std.proofs.Common.{arith, ◌≡◌, true, ap, sym, subst, ◌∙◌}
use Rattle.kern_model.specs.declared.object.Object.{Object}
use Rattle.kern_model.specs.declared.object.Call.TheVariants.{Put}
use Rattle.kern_model.specs.ObjectOrder.{Has}
use Rattle.kern_model.specs.Kernel.{after_call}
use Rattle.kern_model.specs.Touched.{is_taken}
use Rattle.graph_objects.specs.Marks.{Marks, held_of}
use Rattle.graph_objects.proofs.SlotLemmas.{by_sides}
use Rattle.graph_objects.specs.Deciders.{AreListed}
use Rattle.graph_objects.proofs.DeciderLemmas.{as_many_slots}
use Rattle.graph_objects.proofs.MarkedLemmas.{wanted_same}
use Rattle.graph_objects.proofs.ListedLemmas.{no_takes_left, puts_left}
use Rattle.graph_objects.proofs.objects.DeviceObjects.put.Goals as goal

pub put-requires-clause-wanted : goal.put-requires-clause-wanted
put-requires-clause-wanted c = by_sides c.self.inside.slots.entries _ c.self.view_is (λ h w. Has w c.args.object.now) c.requires.wanted

pub put-requires-clause-taken : goal.put-requires-clause-taken
put-requires-clause-taken c = by_sides c.self.inside.slots.entries _ c.self.view_is (λ h w. (o : Object) → is_taken h w o ≡ true → ⊥) c.requires.taken

pub returns-clause-held : goal.returns-clause-held
returns-clause-held c = c.put.ensures.held ∙ ap (λ (m : Marks). after_call (held_of m) (Put c.args.object.now)) c.self.view_is

pub returns-clause-wishes : goal.returns-clause-wishes
returns-clause-wishes c = c.put.ensures.wishes ∙ ap (λ (m : Marks). m.wishes) c.self.view_is

pub invariant_of-self : goal.invariant_of-self
invariant_of-self c =
    let es = c.self.inside.slots.entries in
    let now = c.put.new.slots.entries in
    let wanted = wanted_same es now c.put.ensures.wishes in
    let size = as_many_slots es now c.put.ensures.deciders in
    let is = by_sides es _ c.self.view_is (λ h w. Has w c.args.object.now) c.requires.wanted in
    let done = by_sides es _ c.self.view_is (λ h w. (o : Object) → is_taken h w o ≡ true → ⊥) c.requires.taken in
    record {
      slots = c.put.ensures.slots;
      marked = c.put.ensures.marked;
      listed = subst (AreListed c.self.inside.by_id.items) (sym c.put.ensures.deciders) c.self.invariant.listed;
      order = record {
        takes = λ kept. no_takes_left es now wanted size c.args.object.now c.put.ensures.held c.put.ensures.steady is done c.self.inside.order.takes.items (c.self.invariant.order.takes kept);
        puts = λ kept. c.drop_done.ensures.listed (puts_left es now wanted size c.args.object.now c.put.ensures.held c.put.ensures.steady is done c.self.inside.order.puts.items (c.self.invariant.order.puts kept));
      };
      room = record { few = omega (arith, c.self.invariant.room.few, size); takes = omega (arith, c.self.invariant.room.takes, size); puts = omega (arith, c.self.invariant.room.puts, size, c.drop_done.ensures.capacity) };
    }
