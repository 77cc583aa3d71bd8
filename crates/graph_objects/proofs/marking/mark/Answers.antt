use Rattle.std.proofs.Common.{arith}
use Rattle.graph_objects.proofs.MarkedLemmas.{differences_alone}
use Rattle.graph_objects.proofs.marking.mark.Goals as goal

pub mark_falling-requires-clause-room : goal.mark_falling-requires-clause-room
mark_falling-requires-clause-room c = omega (arith, c.requires.room, c.mark_differences.ensures.size)

pub returns-else-mark_differences : goal.returns-else-mark_differences
returns-else-mark_differences c =
    differences_alone c.args.slots.now.entries c.mark_differences.new.marks (omega (arith, c.requires.room, c.mark_differences.ensures.size)) c.mark_differences.ensures.differing
    (c.mark_differences.ensures.links c.if-mark_differences.false)
