use Rattle.std.proofs.Common.{All, take}
use Rattle.use_counts.specs.Order.{HasLevel}
use Rattle.use_counts.proofs.loads.levels_fit.Given as goal

abbrev pub invariant-loop-row : goal.invariant-loop-row
invariant-loop-row l = record { fit : All HasLevel (take l.row-index l.rows) }
