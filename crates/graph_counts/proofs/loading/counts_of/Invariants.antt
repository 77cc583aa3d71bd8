use Rattle.graph_counts.proofs.loading.counts_of.Given as goal

abbrev pub ghosts-tell : goal.ghosts-tell
ghosts-tell a = record { name = a.blank.name; parts = a.blank.parts }
