use Rattle.std.proofs.Common.{map, take}
use Rattle.net_view.specs.Places.{HasPlaces}
use Rattle.net_after.proofs.places.open_interface_places.Given as goal

-- the map has the places of the names so far
abbrev pub invariant-loop-place : goal.invariant-loop-place
invariant-loop-place l = HasPlaces l.places (map (λ x. x.request.name) (take l.place l.current))
