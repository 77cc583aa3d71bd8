use Rattle.graph_objects.proofs.walks.+height.Given as goal

abbrev pub decreases-height : goal.decreases-height
decreases-height l = l.steps
