use Rattle.std.proofs.Common.{arith, length, ap, sym, subst, ◌∙◌}
use Rattle.std.proofs.lemmas.List.{length-map}
use Rattle.graph_objects.specs.declared.key.ObjectKey.{ObjectKey}
use Rattle.graph_objects.specs.declared.slot.Slot.{Slot}
use Rattle.graph_objects.specs.Slots.{AreSlots, Entries}
use Rattle.graph_objects.specs.Changed.{judged_slot_by}
use Rattle.graph_objects.specs.Deciders.{IsListed}
use Rattle.graph_objects.specs.Marked.{AreMarked, MarkSome}
use Rattle.graph_objects.proofs.EachLemmas.{decided_slots}
use Rattle.graph_objects.proofs.DeciderLemmas.{as_many_deciders}
use Rattle.graph_objects.proofs.SomeMarkedLemmas.{marks_after_ids}
use Rattle.graph_objects.proofs.judging.judge_ids.Goals as goal

pub mark_ids-requires-clause-slots : goal.mark_ids-requires-clause-slots
mark_ids-requires-clause-slots c = subst AreSlots (sym c.judge_each.ensures) (decided_slots c.args.used.now c.args.ids.now c.args.slots.now.entries c.requires.slots)

pub mark_ids-requires-clause-room : goal.mark_ids-requires-clause-room
mark_ids-requires-clause-room c =
    let es = c.args.slots.now.entries in
    let size = ap length c.judge_each.ensures ∙ length-map {B = ObjectKey × Slot} es (λ (e : ObjectKey × Slot). (e.0, judged_slot_by c.args.used.now c.args.ids.now e.1)) in
    omega (arith, size, c.requires.marked.room)

pub mark_ids-requires-clause-within : goal.mark_ids-requires-clause-within
mark_ids-requires-clause-within c id i h =
    let es = c.args.slots.now.entries in
    let size = ap length c.judge_each.ensures ∙ length-map {B = ObjectKey × Slot} es (λ (e : ObjectKey × Slot). (e.0, judged_slot_by c.args.used.now c.args.ids.now e.1)) in
    let inside = c.requires.listed.within id i h in
    let many = as_many_deciders es in
    omega (arith, size, inside, many)

pub returns-clause-marked : goal.returns-clause-marked
returns-clause-marked c =
    subst (AreMarked c.mark_ids.new.marks) (sym c.judge_each.ensures)
    (marks_after_ids c.args.slots.now.entries c.args.by_id.now c.args.used.now c.args.ids.now c.args.marks.now c.mark_ids.new.marks c.requires.marked c.requires.listed c.requires.stand
    (subst (λ (es : Entries). MarkSome es c.args.marks.now c.mark_ids.new.marks (IsListed c.args.by_id.now c.args.ids.now)) c.judge_each.ensures c.mark_ids.ensures))
