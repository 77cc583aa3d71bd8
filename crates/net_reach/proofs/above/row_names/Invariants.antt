use Rattle.std.proofs.Common.{◌≡◌, map, take}
use Rattle.net_reach.proofs.above.row_names.Given as goal

-- the names of the rows so far
abbrev pub invariant-loop-row : goal.invariant-loop-row
invariant-loop-row l = l.names.items ≡ map (λ row. row.name) (take l.row-index l.rows)
