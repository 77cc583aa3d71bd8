use Rattle.graph_objects.proofs.MarkedLemmas.{AllSoFar}
use Rattle.graph_objects.proofs.marking.mark_all.Given as goal

-- all slots so far are marked
abbrev pub invariant-loop-index : goal.invariant-loop-index
invariant-loop-index l = AllSoFar l.fn.marks l.marks l.index
