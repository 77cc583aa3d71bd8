use Rattle.std.proofs.Common.{◌≡◌, take}
use Rattle.given_objects.proofs.DueLemmas.{alone_in}
use Rattle.given_objects.proofs.given.GivenObjects.due.Given as goal

-- those of the gifts so far
abbrev pub invariant-loop-place : goal.invariant-loop-place
invariant-loop-place l = record { count : l.count ≡ alone_in (take l.place l.self) }
