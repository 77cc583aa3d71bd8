use Rattle.std.proofs.Common.{drop}
use Rattle.net_rows.specs.Cut.{HasNone}
use Rattle.net_rows.proofs.cut.cut_last.Given as goal

-- the bytes from here on are others
abbrev pub invariant-loop-at : goal.invariant-loop-at
invariant-loop-at l = HasNone l.byte (drop l.at l.text)
