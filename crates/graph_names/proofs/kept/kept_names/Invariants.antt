use Rattle.std.proofs.Common.{◌≡◌, ◌++◌, map, take}
use Rattle.graph_rules.specs.After.{kept_names}
use Rattle.graph_names.proofs.kept.kept_names.Given as goal

-- the names of the rows, and the further ones so far
abbrev pub invariant-loop-name : goal.invariant-loop-name
invariant-loop-name l = l.names ≡ kept_names l.old (map (λ row. row.name) l.rows ++ take l.name-index l.plain)
