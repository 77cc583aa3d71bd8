use Rattle.std.proofs.Common.{◌≡◌, ◌++◌, map, take}
use Rattle.net_rules.specs.Rows.{rowless}
use Rattle.graph_counts.specs.Counted as spec
use Rattle.graph_counts.proofs.nodes.node_rows.Given as goal

-- the nodes of the rows so far
abbrev pub invariant-loop-row : goal.invariant-loop-row
invariant-loop-row l = l.nodes.items ≡ map spec.node_row (take l.row-index l.rows)

-- those of all rows, and of the names so far
abbrev pub invariant-loop-name : goal.invariant-loop-name
invariant-loop-name l = l.nodes.items ≡ map spec.node_row l.rows ++ map (λ name. spec.node_row (rowless name)) (take l.name-index l.plain)
