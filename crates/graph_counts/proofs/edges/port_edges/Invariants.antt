use Rattle.std.proofs.Common.{◌≡◌, take}
use Rattle.graph_rules.specs.State.{name_list}
use Rattle.graph_counts.specs.Counted as spec
use Rattle.graph_counts.proofs.edges.port_edges.Given as goal

-- the edges to the ports so far
abbrev pub invariant-loop-port : goal.invariant-loop-port
invariant-loop-port l = l.edges.items ≡ spec.port_edges (name_list l.names) l.rows (take l.port-index l.radio)
