use Rattle.std.proofs.Common.{◌≡◌, take}
use Rattle.graph_rules.specs.State.{name_list}
use Rattle.graph_counts.specs.Counted as spec
use Rattle.graph_counts.proofs.edges.row_edges.Given as goal

-- the edges of the rows so far
abbrev pub invariant-loop-upper : goal.invariant-loop-upper
invariant-loop-upper l = l.edges.items ≡ spec.row_edges (name_list l.names) (take l.upper l.rows)
