use Rattle.std.proofs.Common.{take}
use Rattle.net_after.specs.NumberSet.{HasNumbers}
use Rattle.net_after.proofs.notices.number_set.Given as goal

-- the set has the numbers so far
abbrev pub invariant-loop-number : goal.invariant-loop-number
invariant-loop-number l = HasNumbers (take l.number-index l.numbers) l.set
