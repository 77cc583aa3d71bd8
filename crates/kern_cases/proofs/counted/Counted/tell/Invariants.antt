use Rattle.kern_cases.proofs.counted.Counted.tell.Given as goal

abbrev pub ghosts-tell : goal.ghosts-tell
ghosts-tell a = record { name = a.blank.name; parts = a.blank.parts }
