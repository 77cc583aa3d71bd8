use Rattle.bench_loads.proofs.counts.carry_out.Given as goal

abbrev pub ghosts-tell : goal.ghosts-tell
ghosts-tell a = record { name = a.blank.name; parts = a.blank.parts }
