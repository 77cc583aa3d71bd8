use Rattle.std.proofs.Common.{take}
use Rattle.net_reach.specs.Groups.{HasGroups}
use Rattle.net_reach.specs.Reach.{stands_on}
use Rattle.net_reach.proofs.above.rows_above.Given as goal

-- the map has the places of the rows so far
abbrev pub invariant-loop-place : goal.invariant-loop-place
invariant-loop-place l = HasGroups l.above (stands_on l.inputs) (take l.place l.rows)
