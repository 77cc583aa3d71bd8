use Rattle.net_follow.proofs.follower.Follower.operator_state.Given as goal

abbrev pub ghosts-operator_state_by : goal.ghosts-operator_state_by
ghosts-operator_state_by a = record { name = a.blank.name; parts = a.blank.parts }
