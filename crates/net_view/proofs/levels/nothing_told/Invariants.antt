use Rattle.std.proofs.Common.{◌≡◌, map, take, false}
use Rattle.net_view.proofs.levels.nothing_told.Given as goal

abbrev pub invariant-loop-row : goal.invariant-loop-row
invariant-loop-row l = l.by_row.items ≡ map (λ row. false) (take l.row-index l.names)
