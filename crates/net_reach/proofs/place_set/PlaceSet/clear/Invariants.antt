use Rattle.std.proofs.Common.{◌≡◌, length, vec_len}
use Rattle.net_reach.specs.PlaceInside.{IsKept}
use Rattle.net_reach.proofs.place_set.PlaceSet.clear.Given as goal

-- the marks are those of the places that are left
abbrev pub invariant-loop-place : goal.invariant-loop-place
invariant-loop-place l = record { kept : IsKept l.self-inside; bound : length l.self-inside.marks.items ≡ l.fn.self.bound }

abbrev pub decreases-loop-place : goal.decreases-loop-place
decreases-loop-place l = vec_len l.self-inside.list
