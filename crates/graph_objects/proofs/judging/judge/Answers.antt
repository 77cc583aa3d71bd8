use Rattle.std.proofs.Common.{arith, length, ap, sym, subst, ◌∙◌}
use Rattle.graph_objects.specs.Slots.{AreSlots}
use Rattle.graph_objects.specs.Changed.{judged_slot}
use Rattle.graph_objects.proofs.EachLemmas.{judged_slots, as_many, all_written}
use Rattle.graph_objects.proofs.judging.judge.Goals as goal

pub mark-requires-clause-slots : goal.mark-requires-clause-slots
mark-requires-clause-slots c = subst AreSlots (sym c.judge_slots.ensures) (judged_slots c.args.used.now c.args.slots.now.entries c.requires.slots)

pub mark-requires-clause-room : goal.mark-requires-clause-room
mark-requires-clause-room c =
    let es = c.args.slots.now.entries in
    let size = ap length (c.judge_slots.ensures ∙ sym (all_written (judged_slot c.args.used.now) es)) ∙ as_many (judged_slot c.args.used.now) es (length es) in
    omega (arith, size, c.requires.room)
