use Rattle.std.proofs.Common.{◌≡◌, ◌++◌, map, take}
use Rattle.graph_rules.specs.Answers.{given_ports, port_of}
use Rattle.graph_tables.proofs.bridges.add_given.Given as goal

-- the ports so far
abbrev pub invariant-loop-joins : goal.invariant-loop-joins
invariant-loop-joins l = l.ports.items ≡ l.fn.ports.items ++ given_ports (map port_of (take l.joins-index l.radio)) l.bridge
