use Rattle.std.proofs.Common.{◌≡◌, take, filter}
use Rattle.given_objects.specs.Changes.{is_live}
use Rattle.given_objects.proofs.given.GivenObjects.live.Given as goal

-- those of the gifts so far
abbrev pub invariant-loop-place : goal.invariant-loop-place
invariant-loop-place l = record { live : l.live ≡ filter is_live (take l.place l.self) }
