use Rattle.std.proofs.Common.{map, take}
use Rattle.net_view.specs.Places.{HasPlaces}
use Rattle.net_view.proofs.index.interface_request_places.Given as goal

-- the map has the places of the names so far
abbrev pub invariant-loop-place : goal.invariant-loop-place
invariant-loop-place l = HasPlaces l.places (map (λ o. o.request.name) (take l.place l.interface_requests))
