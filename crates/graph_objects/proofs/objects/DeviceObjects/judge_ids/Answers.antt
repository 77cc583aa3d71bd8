use Rattle.std.proofs.Common.{arith, map, ap, sym, subst, ◌∙◌}
use Rattle.graph_objects.specs.declared.slot.Side.TheVariants.{Held}
use Rattle.graph_objects.specs.Slots.{AreSlots, listed, wishes}
use Rattle.graph_objects.specs.Marks.{Marks}
use Rattle.graph_objects.specs.Decided.{StandOnWanted, judged_by}
use Rattle.graph_objects.specs.Deciders.{AreListed, deciders}
use Rattle.graph_objects.proofs.EachLemmas.{decided_slots, decided_held, decided_wishes}
use Rattle.graph_objects.proofs.DeciderLemmas.{as_many_slots, decided_deciders}
use Rattle.graph_objects.proofs.JudgeLemmas.{by_no_id}
use Rattle.graph_objects.proofs.objects.DeviceObjects.judge_ids.Goals as goal

pub judge_ids-requires-clause-stand : goal.judge_ids-requires-clause-stand
judge_ids-requires-clause-stand c = subst (λ (m : Marks). StandOnWanted (map (judged_by c.args.used.now c.args.ids.now) m.wishes)) (sym c.self.view_is) c.requires

pub invariant_of-self : goal.invariant_of-self
invariant_of-self c = record {
  slots = subst AreSlots (sym c.judge_ids.ensures.slots) (decided_slots c.args.used.now c.args.ids.now c.self.inside.slots.entries c.self.invariant.slots);
  marked = c.judge_ids.ensures.marked;
  listed = subst (AreListed c.self.inside.by_id.items) (sym (ap deciders c.judge_ids.ensures.slots ∙ decided_deciders c.args.used.now c.args.ids.now c.self.inside.slots.entries)) c.self.invariant.listed;
  order = record { takes = λ kept. absurd (cc kept); puts = λ kept. absurd (cc kept) };
  room = record {
    few = omega (
      arith,
      c.self.invariant.room.few,
      as_many_slots c.self.inside.slots.entries c.judge_ids.new.slots.entries
          (ap deciders c.judge_ids.ensures.slots ∙ decided_deciders c.args.used.now c.args.ids.now c.self.inside.slots.entries),
    );
    takes = omega (
      arith,
      c.self.invariant.room.takes,
      as_many_slots c.self.inside.slots.entries c.judge_ids.new.slots.entries
          (ap deciders c.judge_ids.ensures.slots ∙ decided_deciders c.args.used.now c.args.ids.now c.self.inside.slots.entries),
    );
    puts = omega (
      arith,
      c.self.invariant.room.puts,
      as_many_slots c.self.inside.slots.entries c.judge_ids.new.slots.entries
          (ap deciders c.judge_ids.ensures.slots ∙ decided_deciders c.args.used.now c.args.ids.now c.self.inside.slots.entries),
    );
  };
}

pub returns-clause-held : goal.returns-clause-held
returns-clause-held c = ap (listed Held) c.judge_ids.ensures.slots ∙ decided_held c.args.used.now c.args.ids.now c.self.inside.slots.entries ∙ ap (λ (m : Marks). m.held) c.self.view_is

pub returns-clause-wishes : goal.returns-clause-wishes
returns-clause-wishes c = ap wishes c.judge_ids.ensures.slots ∙ decided_wishes c.args.used.now c.args.ids.now c.self.inside.slots.entries ∙ ap (λ (m : Marks). map (judged_by c.args.used.now c.args.ids.now) m.wishes) c.self.view_is

pub returns-then-is_empty-clause-wishes : goal.returns-then-is_empty-clause-wishes
returns-then-is_empty-clause-wishes c = by_no_id c.args.used.now c.args.ids.now c.args.self.now.wishes (sym c.is_empty.ensures ∙ c.if-is_empty.true)
