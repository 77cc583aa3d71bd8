use Rattle.std.proofs.Common.{◌≡◌, take, fold, filter}
use Rattle.given_objects.specs.Changes.{is_live, with_place}
use Rattle.given_objects.proofs.given.GivenObjects.kept.Given as goal

-- there are places for the objects so far
abbrev pub invariant-loop-object : goal.invariant-loop-object
invariant-loop-object l = record { kept : l.kept ≡ fold with_place (filter is_live l.self) (take l.object-index l.keep) }
