use Rattle.graph_objects.proofs.MarkedLemmas.{FallingSoFar}
use Rattle.graph_objects.proofs.marking.mark_falling.Given as goal

-- the objects on links that are taken in the slots so far are marked
abbrev pub invariant-loop-index : goal.invariant-loop-index
invariant-loop-index l = FallingSoFar l.slots.entries l.fn.marks l.marks l.index
