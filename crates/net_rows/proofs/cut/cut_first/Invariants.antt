use Rattle.std.proofs.Common.{take}
use Rattle.net_rows.specs.Cut.{HasNone}
use Rattle.net_rows.proofs.cut.cut_first.Given as goal

-- the bytes so far are others
abbrev pub invariant-loop-at : goal.invariant-loop-at
invariant-loop-at l = HasNone l.byte (take l.at l.text)
