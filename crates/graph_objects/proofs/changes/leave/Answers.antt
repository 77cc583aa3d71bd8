use Rattle.std.proofs.Common.{ap, refl, sym, subst, ◌∙◌}
use Rattle.graph_objects.specs.declared.slot.Side.TheVariants.{Held}
use Rattle.graph_objects.specs.Slots.{AreSlots, set_on, wishes}
use Rattle.graph_objects.specs.Changed.{each_slot, let_go, marked}
use Rattle.graph_objects.specs.Marked.{AreMarked}
use Rattle.graph_objects.specs.Deciders.{deciders}
use Rattle.graph_objects.proofs.EachLemmas.{marked_slots, go_slots, gone_held, gone_wishes}
use Rattle.graph_objects.proofs.MarkedLemmas.{stays_marked}
use Rattle.graph_objects.proofs.DeciderLemmas.{gone_deciders}
use Rattle.graph_objects.proofs.changes.leave.Goals as goal

pub let_go-requires : goal.let_go-requires
let_go-requires c =
    let es = c.args.slots.now.entries in
    subst (AreMarked c.args.marks.now) (sym c.mark_leaving.ensures) (stays_marked (marked (set_on Held es) c.args.name.now) (λ s. refl) (λ s. refl) es c.args.marks.now c.requires.marked)

pub returns-clause-slots : goal.returns-clause-slots
returns-clause-slots c =
    subst AreSlots (sym c.let_go.ensures.slots) (go_slots c.mark_leaving.new.slots.entries (subst AreSlots (sym c.mark_leaving.ensures) (marked_slots c.args.slots.now.entries c.args.name.now c.requires.slots)))

pub returns-clause-held : goal.returns-clause-held
returns-clause-held c = ap (set_on Held) (c.let_go.ensures.slots ∙ ap (each_slot let_go) c.mark_leaving.ensures) ∙ gone_held c.args.slots.now.entries c.args.name.now

pub returns-clause-wishes : goal.returns-clause-wishes
returns-clause-wishes c = ap wishes (c.let_go.ensures.slots ∙ ap (each_slot let_go) c.mark_leaving.ensures) ∙ gone_wishes c.args.slots.now.entries c.args.name.now

pub returns-clause-deciders : goal.returns-clause-deciders
returns-clause-deciders c =
    let es = c.args.slots.now.entries in
    ap deciders (c.let_go.ensures.slots ∙ ap (each_slot let_go) c.mark_leaving.ensures) ∙ gone_deciders es (marked (set_on Held es) c.args.name.now) (λ s. refl)
