use Rattle.std.proofs.Common.{arith, ◌≡◌, length}
use Rattle.graph_objects.proofs.MarkedLemmas.{no_differences, more_differences, all_differences, links_wanted}
use Rattle.graph_objects.proofs.marking.mark_differences.Goals as goal

pub loop-index-init : goal.loop-index-init
loop-index-init c = no_differences c.args.slots.now.entries c.args.marks.now

pub put-requires : goal.put-requires
put-requires c = omega (arith, c.requires, c.loop-index.invariant.size, c.len-index-end.ensures.len)

pub loop-index-preserved : goal.loop-index-preserved
loop-index-preserved c =
    more_differences c.args.slots.now.entries c.args.marks.now c.loop-index.marks c.put.new.self c.loop-index.index c.loop-index.loses_link c.index-slot.result.now c.differs-is_apart.result c.holds_link.result
    c.loop-index.invariant c.index-slot.ensures c.differs-is_apart.ensures c.holds_link.ensures c.put.ensures

pub returns-clause-differing : goal.returns-clause-differing
returns-clause-differing c =
    let all : c.loop-index.index ≡ length c.args.slots.now.entries = omega (arith, c.len-index-end.ensures.len) in
    all_differences c.args.slots.now.entries c.args.marks.now c.loop-index.marks c.loop-index.index c.loop-index.loses_link all c.loop-index.invariant

pub returns-clause-links : goal.returns-clause-links
returns-clause-links c none =
    let all : c.loop-index.index ≡ length c.args.slots.now.entries = omega (arith, c.len-index-end.ensures.len) in
    links_wanted c.args.slots.now.entries c.args.marks.now c.loop-index.marks c.loop-index.index c.loop-index.loses_link all c.loop-index.invariant none
