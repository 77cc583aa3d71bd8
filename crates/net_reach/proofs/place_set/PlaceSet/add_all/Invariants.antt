use Rattle.std.proofs.Common.{◌≡◌, take}
use Rattle.net_reach.specs.Places.{with_places}
use Rattle.net_reach.proofs.place_set.PlaceSet.add_all.Given as goal

-- the places so far are added
abbrev pub invariant-loop-place : goal.invariant-loop-place
invariant-loop-place l = l.self ≡ with_places l.fn.self (take l.place-index l.places)
