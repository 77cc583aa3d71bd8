use Rattle.std.proofs.Common.{arith, ◌≡◌, length, ap, sym, ◌∙◌}
use Rattle.graph_objects.specs.declared.slot.Side.TheVariants.{Held}
use Rattle.graph_objects.specs.Slots.{set_on}
use Rattle.graph_objects.specs.Changed.{first_slots, marked}
use Rattle.graph_objects.proofs.EachLemmas.{none_written, as_many, more_slots, more_marked, all_written}
use Rattle.graph_objects.proofs.changes.mark_leaving.Goals as goal

pub loop-index-init : goal.loop-index-init
loop-index-init c = sym (none_written (marked (set_on Held c.args.slots.now.entries) c.args.name.now) c.args.slots.now.entries)

pub index-requires : goal.index-requires
index-requires c =
    let es = c.args.slots.now.entries in
    let size = ap length c.loop-index.invariant ∙ as_many (marked (set_on Held es) c.args.name.now) es c.loop-index.index in
    omega (arith, c.len-index-end.ensures.len)

pub leaves-is_leaving-requires : goal.leaves-is_leaving-requires
leaves-is_leaving-requires c = more_slots c.args.slots.now.entries c.loop-index.slots.entries c.args.name.now c.loop-index.index c.requires c.loop-index.invariant

pub index_mut-requires : goal.index_mut-requires
index_mut-requires c =
    let es = c.args.slots.now.entries in
    let size = ap length c.loop-index.invariant ∙ as_many (marked (set_on Held es) c.args.name.now) es c.loop-index.index in
    omega (arith, c.len-index-end.ensures.len)

pub loop-index-preserved : goal.loop-index-preserved
loop-index-preserved c =
    more_marked c.args.slots.now.entries c.loop-index.slots.entries c.args.name.now c.loop-index.index c.index_mut.result.now c.index.result.now c.leaves-is_leaving.result c.loop-index.invariant c.index.ensures c.index_mut.ensures.value
    c.leaves-is_leaving.ensures

pub returns : goal.returns
returns c =
    let es = c.args.slots.now.entries in
    let all : c.loop-index.index ≡ length es = omega (arith, c.len-index-end.ensures.len) in
    c.loop-index.invariant ∙ ap (first_slots (marked (set_on Held es) c.args.name.now) es) all ∙ all_written (marked (set_on Held es) c.args.name.now) es
