use Rattle.std.proofs.Common.{map, take}
use Rattle.net_view.specs.Places.{HasPlaces}
use Rattle.net_view.proofs.radio_ports.answer_places.Given as goal

-- the map has the places of the interfaces so far
abbrev pub invariant-loop-place : goal.invariant-loop-place
invariant-loop-place l = HasPlaces l.places (map (λ answer. answer.interface) (take l.place l.answered))
