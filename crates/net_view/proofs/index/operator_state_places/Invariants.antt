use Rattle.std.proofs.Common.{map, take}
use Rattle.net_view.specs.Places.{HasPlaces}
use Rattle.net_view.proofs.index.operator_state_places.Given as goal

-- the map has the places of the names so far
abbrev pub invariant-loop-place : goal.invariant-loop-place
invariant-loop-place l = HasPlaces l.places (map (λ operator_state. operator_state.interface) (take l.place l.operator_states))
