use Rattle.net_rebuild.proofs.radios.join_ports.Given as goal

abbrev pub ghosts-begin : goal.ghosts-begin
ghosts-begin a = record { name = a.blank.name; parts = a.blank.parts }
