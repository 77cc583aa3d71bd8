use Rattle.std.proofs.Common.{take}
use Rattle.net_reach.specs.Walk.{HasTouched}
use Rattle.net_reach.proofs.walk.touch_rows.Given as goal

-- the interfaces at the names of the rows so far came
abbrev pub invariant-loop-row : goal.invariant-loop-row
invariant-loop-row l = HasTouched l.at_device l.at_l3_device l.names (take l.row-index l.rows) l.initial.touched l.touched
