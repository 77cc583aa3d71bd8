use Rattle.std.proofs.Common.{take}
use Rattle.net_interfaces.specs.Names.{HasPlaces}
use Rattle.net_interfaces.specs.Routes.{names_of}
use Rattle.net_interfaces.proofs.routes.interface_places.Given as goal

-- the map has the places of the names so far
abbrev pub invariant-loop-place : goal.invariant-loop-place
invariant-loop-place l = HasPlaces l.places (names_of (take l.place l.interfaces))
