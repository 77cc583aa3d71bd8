use Rattle.std.proofs.Common.{map, drop, filter_map, slice_get}
use Rattle.net_wants.specs.Given.{route_on}
use Rattle.net_looks.proofs.GivingLemmas.{IsLeft}
use Rattle.net_looks.proofs.giving.change_routes_at.Given as goal

-- what is left is of the other places
abbrev pub invariant-loop-place : goal.invariant-loop-place
invariant-loop-place l = IsLeft l.change l.initial.gifts l.gifts (map (route_on l.dev) (filter_map (slice_get l.routes) l.places)) (map (route_on l.dev) (filter_map (slice_get l.routes) (drop l.place-index l.places)))
