use Rattle.std.proofs.Common.{arith, ◌≡◌, length}
use Rattle.graph_objects.proofs.MarkedLemmas.{all_at_first, all_and_more, all_marked}
use Rattle.graph_objects.proofs.marking.mark_all.Goals as goal

pub loop-index-init : goal.loop-index-init
loop-index-init c = all_at_first c.args.marks.now

pub put-requires : goal.put-requires
put-requires c = omega (arith, c.requires, c.loop-index.invariant.size, c.len-index-end.ensures.len)

pub loop-index-preserved : goal.loop-index-preserved
loop-index-preserved c = all_and_more c.args.marks.now c.loop-index.marks c.put.new.self c.loop-index.index c.loop-index.invariant c.put.ensures

pub returns : goal.returns
returns c =
    let all : c.loop-index.index ≡ length c.args.slots.now.entries = omega (arith, c.len-index-end.ensures.len) in
    all_marked c.args.slots.now.entries c.args.marks.now c.loop-index.marks c.loop-index.index c.requires all c.loop-index.invariant
