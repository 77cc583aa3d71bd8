use Rattle.std.proofs.Common.{map, take}
use Rattle.net_interfaces.specs.Names.{HasPlaces}
use Rattle.net_interfaces.proofs.radios.radio_places.Given as goal

-- the map has the places of the names so far
abbrev pub invariant-loop-place : goal.invariant-loop-place
invariant-loop-place l = HasPlaces l.places (map (λ row. row.name) (take l.place l.radios))
