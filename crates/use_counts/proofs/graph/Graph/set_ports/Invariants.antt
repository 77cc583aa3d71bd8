use Rattle.use_counts.proofs.graph.Graph.set_ports.Given as goal

abbrev pub ghosts-repeat : goal.ghosts-repeat
ghosts-repeat a = record { name = a.blank.name; parts = a.blank.parts }
