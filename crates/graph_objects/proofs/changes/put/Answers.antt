use Rattle.std.proofs.Common.{arith, None, Some, sym, subst, ap, refl, ◌∙◌, ◌≡◌}
use Rattle.std.specs.Map.{lookup}
use Rattle.graph_objects.specs.declared.slot.Slot.{Slot}
use Rattle.graph_objects.specs.declared.slot.Side.TheVariants.{Held, Wanted}
use Rattle.graph_objects.specs.Slots.{AreSlots, set_on, wishes}
use Rattle.graph_objects.specs.Marked.{AreMarked}
use Rattle.graph_objects.specs.Deciders.{deciders}
use Rattle.graph_objects.proofs.KeyLemmas.{key_eq, key_same, key_itself}
use Rattle.graph_objects.proofs.SlotLemmas.{none_of, not_absent, entry_at, steady_on}
use Rattle.graph_objects.proofs.ChangeLemmas.{put_slots, put_held, link_wanted, wishes_now}
use Rattle.graph_objects.proofs.MarkedLemmas.{marks_after_links}
use Rattle.graph_objects.proofs.DeciderLemmas.{deciders_written}
use Rattle.graph_objects.proofs.changes.put.Goals as goal

pub returns-in_default-clause-held : goal.returns-in_default-clause-held
returns-in_default-clause-held c =
    let es = c.args.slots.now.entries in
    let absent = subst (λ k. lookup (key_eq k) es ≡ None) c.key_of.ensures (none_of _ c.in_default.ensures.found) in
    absurd (not_absent key_eq key_same key_itself es c.requires.slots c.get_index_of.ensures.unique Wanted c.args.object.now absent c.requires.wanted)

pub returns-clause-slots : goal.returns-clause-slots
returns-clause-slots c =
    let es = c.args.slots.now.entries in
    let at = entry_at key_eq key_same key_itself c.key_of.result es c.in-Some.index c.index.result.now (sym c.in-Some.ensures.index) c.index.ensures in
    subst AreSlots (sym c.write.ensures.slots) (put_slots key_eq key_same key_itself es c.requires.slots c.get_index_of.ensures.unique c.in-Some.index c.key_of.result c.index.result.now at c.args.object.now c.key_of.ensures
    c.requires.wanted c.requires.taken)

pub returns-clause-marked : goal.returns-clause-marked
returns-clause-marked c =
    let es = c.args.slots.now.entries in
    let s : Slot = c.index.result.now in
    let w : Slot = record s { held = Some c.args.object.now } in
    let at = entry_at key_eq key_same key_itself c.key_of.result es c.in-Some.index s (sym c.in-Some.ensures.index) c.index.ensures in
    subst (AreMarked c.write.new.marks) (sym c.write.ensures.slots)
    (marks_after_links es c.in-Some.index c.key_of.result s w at c.args.marks.now c.write.new.marks c.requires.marked c.write.ensures.mark refl
    (λ n k h. link_wanted key_eq key_same key_itself es c.requires.slots c.get_index_of.ensures.unique c.in-Some.index c.key_of.result s at c.args.object.now c.key_of.ensures c.requires.wanted c.requires.taken n k h))

pub returns-clause-held : goal.returns-clause-held
returns-clause-held c =
    let es = c.args.slots.now.entries in
    let at = entry_at key_eq key_same key_itself c.key_of.result es c.in-Some.index c.index.result.now (sym c.in-Some.ensures.index) c.index.ensures in
    ap (set_on Held) c.write.ensures.slots ∙ put_held key_eq key_same key_itself es c.requires.slots c.get_index_of.ensures.unique c.in-Some.index c.key_of.result c.index.result.now at c.args.object.now c.key_of.ensures c.requires.wanted
    c.requires.taken

pub returns-clause-wishes : goal.returns-clause-wishes
returns-clause-wishes c =
    let es = c.args.slots.now.entries in
    let at = entry_at key_eq key_same key_itself c.key_of.result es c.in-Some.index c.index.result.now (sym c.in-Some.ensures.index) c.index.ensures in
    ap wishes c.write.ensures.slots ∙ wishes_now key_eq key_same key_itself es c.requires.slots c.get_index_of.ensures.unique c.in-Some.index c.key_of.result c.index.result.now at (Some c.args.object.now)

pub write-requires-clause-room : goal.write-requires-clause-room
write-requires-clause-room c = omega (arith, c.in-Some.ensures.within, c.requires.marked.room)

pub returns-clause-deciders : goal.returns-clause-deciders
returns-clause-deciders c =
    let es = c.args.slots.now.entries in
    let s : Slot = c.index.result.now in
    let w : Slot = record s { held = Some c.args.object.now } in
    let at = entry_at key_eq key_same key_itself c.key_of.result es c.in-Some.index s (sym c.in-Some.ensures.index) c.index.ensures in
    ap deciders c.write.ensures.slots ∙ deciders_written es c.in-Some.index c.key_of.result s w at refl

pub returns-in_default-clause-steady : goal.returns-in_default-clause-steady
returns-in_default-clause-steady c = steady_on key_eq key_same key_itself c.args.slots.now.entries c.requires.slots c.get_index_of.ensures.unique Wanted

pub returns-clause-steady : goal.returns-clause-steady
returns-clause-steady c = steady_on key_eq key_same key_itself c.args.slots.now.entries c.requires.slots c.get_index_of.ensures.unique Wanted
