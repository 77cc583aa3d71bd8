use Rattle.std.proofs.Common.{◌≡◌, map, take}
use Rattle.graph_rules.specs.After.{kept_names}
use Rattle.graph_names.proofs.kept.names_of_rows.Given as goal

-- the names of the rows so far
abbrev pub invariant-loop-row : goal.invariant-loop-row
invariant-loop-row l = l.names ≡ kept_names l.old (take l.row-index (map (λ row. row.name) l.rows))
