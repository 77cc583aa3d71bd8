use Rattle.graph_objects.proofs.MarkedLemmas.{DifferencesSoFar}
use Rattle.graph_objects.proofs.marking.mark_differences.Given as goal

-- the differences of the slots so far are marked
abbrev pub invariant-loop-index : goal.invariant-loop-index
invariant-loop-index l = DifferencesSoFar l.slots.entries l.fn.marks l.marks l.index l.loses_link
