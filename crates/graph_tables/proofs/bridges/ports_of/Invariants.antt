use Rattle.std.proofs.Common.{◌≡◌, take}
use Rattle.graph_tables.proofs.bridges.ports_of.Given as goal

-- the own ports so far
abbrev pub invariant-loop-port : goal.invariant-loop-port
invariant-loop-port l = l.ports.items ≡ take l.port-index l.own
