use Rattle.std.proofs.Common.{◌≡◌, ◌++◌, map, take}
use Rattle.use_counts.specs.Rows as counts
use Rattle.graph_rules.specs.State.{name_list}
use Rattle.graph_counts.specs.Counted.{id_of}
use Rattle.graph_counts.proofs.edges.add_ports.Given as goal

-- the edges to the ports so far
abbrev pub invariant-loop-port : goal.invariant-loop-port
invariant-loop-port l = l.edges.items ≡ l.fn.edges.items ++ map (counts.edge l.upper) (map (id_of (name_list l.names)) (take l.port-index l.ports))
