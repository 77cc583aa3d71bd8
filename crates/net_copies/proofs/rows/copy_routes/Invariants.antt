use Rattle.std.proofs.Common.{◌≡◌, take}
use Rattle.net_copies.proofs.rows.copy_routes.Given as goal

-- the copies so far
abbrev pub invariant-loop-row : goal.invariant-loop-row
invariant-loop-row l = l.copies ≡ take l.row-index l.rows
