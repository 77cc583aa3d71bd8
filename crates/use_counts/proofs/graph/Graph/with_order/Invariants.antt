use Rattle.use_counts.proofs.graph.Graph.with_order.Given as goal

abbrev pub ghosts-settle_all : goal.ghosts-settle_all
ghosts-settle_all a = record { name = a.blank.name; parts = a.blank.parts }
