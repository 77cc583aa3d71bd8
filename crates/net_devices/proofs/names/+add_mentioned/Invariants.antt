use Rattle.net_devices.proofs.names.+add_mentioned.Given as goal

abbrev pub decreases-add_mentioned : goal.decreases-add_mentioned
decreases-add_mentioned l = l.more
