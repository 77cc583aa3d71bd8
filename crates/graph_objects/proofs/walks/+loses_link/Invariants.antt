use Rattle.graph_objects.proofs.walks.+loses_link.Given as goal

abbrev pub decreases-loses_link : goal.decreases-loses_link
decreases-loses_link l = l.steps
