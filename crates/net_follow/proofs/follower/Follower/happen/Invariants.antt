use Rattle.net_follow.proofs.follower.Follower.happen.Given as goal

abbrev pub ghosts-happen_by : goal.ghosts-happen_by
ghosts-happen_by a = record { name = a.blank.name; parts = a.blank.parts }
