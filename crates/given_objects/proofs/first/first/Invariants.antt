use Rattle.std.proofs.Common.{take}
use Rattle.given_objects.proofs.FirstLemmas.{Finds}
use Rattle.given_objects.proofs.first.first.Given as goal

-- the first of the gifts so far
abbrev pub invariant-loop-place : goal.invariant-loop-place
invariant-loop-place l = record { found : Finds l.turn (take l.place l.gifts) l.best }
