use Rattle.std.proofs.Common.{map, drop, filter_map, slice_get}
use Rattle.net_wants.specs.Given.{route_on}
use Rattle.gift_places.proofs.MoreLemmas.{IsLeft}
use Rattle.gift_places.proofs.expecting.expect_routes_at.Given as goal

-- places lack for the routes at the other places
abbrev pub invariant-loop-place : goal.invariant-loop-place
invariant-loop-place l = IsLeft l.initial.gifts l.gifts (map (route_on l.dev) (filter_map (slice_get l.routes) l.places)) (map (route_on l.dev) (filter_map (slice_get l.routes) (drop l.place-index l.places)))
