use Rattle.std.proofs.Common.{map, drop}
use Rattle.net_wants.specs.Given.{answer_route}
use Rattle.gift_places.proofs.MoreLemmas.{IsLeft}
use Rattle.gift_places.proofs.expecting.expect_answer_routes.Given as goal

-- places lack for the other routes
abbrev pub invariant-loop-route : goal.invariant-loop-route
invariant-loop-route l = IsLeft l.initial.gifts l.gifts (map (answer_route l.dev) l.routes) (map (answer_route l.dev) (drop l.route-index l.routes))
