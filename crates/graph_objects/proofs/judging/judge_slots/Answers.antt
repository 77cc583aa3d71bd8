use Rattle.std.proofs.Common.{arith, ◌≡◌, length, ap, sym, ◌∙◌}
use Rattle.graph_objects.specs.Changed.{first_slots, judged_slot}
use Rattle.graph_objects.proofs.EachLemmas.{none_written, as_many, more_judged, all_written}
use Rattle.graph_objects.proofs.judging.judge_slots.Goals as goal

pub loop-index-init : goal.loop-index-init
loop-index-init c = sym (none_written (judged_slot c.args.used.now) c.args.slots.now.entries)

pub index-requires : goal.index-requires
index-requires c =
    let size = ap length c.loop-index.invariant ∙ as_many (judged_slot c.args.used.now) c.args.slots.now.entries c.loop-index.index in
    omega (arith, c.len-index-end.ensures.len)

pub index_mut-requires : goal.index_mut-requires
index_mut-requires c =
    let size = ap length c.loop-index.invariant ∙ as_many (judged_slot c.args.used.now) c.args.slots.now.entries c.loop-index.index in
    omega (arith, c.len-index-end.ensures.len)

pub loop-index-preserved : goal.loop-index-preserved
loop-index-preserved c = more_judged c.args.used.now c.args.slots.now.entries c.loop-index.slots.entries c.loop-index.index c.index_mut.result.now c.index.result.now c.judged_wish-wish.result c.loop-index.invariant c.index.ensures
    c.index_mut.ensures.value c.judged_wish-wish.ensures

pub returns : goal.returns
returns c =
    let es = c.args.slots.now.entries in
    let all : c.loop-index.index ≡ length es = omega (arith, c.len-index-end.ensures.len) in
    c.loop-index.invariant ∙ ap (first_slots (judged_slot c.args.used.now) es) all ∙ all_written (judged_slot c.args.used.now) es
