use Rattle.std.proofs.Common.{arith, ◌≡◌, List, length, filter, ap, sym, subst, ◌∙◌}
use Rattle.std.specs.Prelude.{nat_lt}
use Rattle.graph_objects.specs.declared.slot.Wish.{Wish}
use Rattle.graph_objects.specs.declared.slot.Side.TheVariants.{Held}
use Rattle.graph_objects.specs.Slots.{AreSlots, Entries, listed, wishes}
use Rattle.graph_objects.specs.Marks.{Marks}
use Rattle.graph_objects.specs.Deciders.{AreListed, HasNoNewWish, deciders}
use Rattle.graph_objects.proofs.DeciderLemmas.{still_listed}
use Rattle.graph_objects.proofs.ForgetLemmas.{slots_below, held_below, wishes_below, no_new_below, size_below}
use Rattle.graph_objects.proofs.objects.DeviceObjects.forget_from.Goals as goal

pub forget_from-requires : goal.forget_from-requires
forget_from-requires c = c.self.invariant.marked.room

pub invariant_of-self : goal.invariant_of-self
invariant_of-self c =
    let es = c.self.inside.slots.entries in
    let now = c.forget_from.new.slots.entries in
    let count = c.args.count in
    let size : length now ≡ length es = size_below count es now c.forget_from.ensures.slots in
    record {
      slots = subst AreSlots (sym c.forget_from.ensures.slots) (slots_below count es c.self.invariant.slots);
      marked = c.forget_from.ensures.marked;
      listed = still_listed c.self.inside.by_id.items (deciders es) (deciders now) (subst (λ (xs : Entries). HasNoNewWish (deciders es) (deciders xs)) (sym c.forget_from.ensures.slots) (no_new_below count es)) c.self.invariant.listed;
      order = record { takes = λ kept. absurd (cc kept); puts = λ kept. absurd (cc kept) };
      room = record {
        few = omega (arith, c.self.invariant.room.few, size);
        takes = omega (arith, c.self.invariant.room.takes, size);
        puts = omega (arith, c.self.invariant.room.puts, size);
      };
    }

pub returns-clause-held : goal.returns-clause-held
returns-clause-held c = ap (listed Held) c.forget_from.ensures.slots ∙ held_below c.args.count c.self.inside.slots.entries ∙ ap (λ (m : Marks). m.held) c.self.view_is

pub returns-clause-wishes : goal.returns-clause-wishes
returns-clause-wishes c = ap wishes c.forget_from.ensures.slots ∙ wishes_below c.args.count c.self.inside.slots.entries ∙ ap (λ (m : Marks). filter (λ (w : Wish). nat_lt w.first c.args.count) m.wishes) c.self.view_is
