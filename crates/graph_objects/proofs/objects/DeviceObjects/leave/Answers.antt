use Rattle.std.proofs.Common.{arith, ap, sym, subst, ◌∙◌}
use Rattle.kern_model.specs.Standing.{gone}
use Rattle.graph_objects.specs.Marks.{Marks, held_of}
use Rattle.graph_objects.specs.Deciders.{AreListed}
use Rattle.graph_objects.proofs.DeciderLemmas.{as_many_slots}
use Rattle.graph_objects.proofs.objects.DeviceObjects.leave.Goals as goal

pub returns-clause-held : goal.returns-clause-held
returns-clause-held c = c.leave.ensures.held ∙ ap (λ (m : Marks). gone (held_of m) c.args.name.now) c.self.view_is

pub returns-clause-wishes : goal.returns-clause-wishes
returns-clause-wishes c = c.leave.ensures.wishes ∙ ap (λ (m : Marks). m.wishes) c.self.view_is

pub invariant_of-self : goal.invariant_of-self
invariant_of-self c = record {
  slots = c.leave.ensures.slots;
  marked = c.leave.ensures.marked;
  listed = subst (AreListed c.self.inside.by_id.items) (sym c.leave.ensures.deciders) c.self.invariant.listed;
  order =
      record { takes = λ kept. absurd (cc kept); puts = λ kept. absurd (cc kept) };
  room =
      record {
        few = omega (arith, c.self.invariant.room.few, as_many_slots c.self.inside.slots.entries c.leave.new.slots.entries c.leave.ensures.deciders);
        takes =
            omega (arith, c.self.invariant.room.takes, as_many_slots c.self.inside.slots.entries c.leave.new.slots.entries c.leave.ensures.deciders);
        puts =
            omega (arith, c.self.invariant.room.puts, as_many_slots c.self.inside.slots.entries c.leave.new.slots.entries c.leave.ensures.deciders);
      };
}
