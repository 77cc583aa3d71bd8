use Rattle.std.proofs.Common.{map, drop}
use Rattle.net_rules.specs.Want.{default_route}
use Rattle.gift_places.proofs.MoreLemmas.{IsLeft}
use Rattle.gift_places.proofs.expecting.expect_gateways.Given as goal

-- places lack for the routes by the other gateways
abbrev pub invariant-loop-gateway : goal.invariant-loop-gateway
invariant-loop-gateway l = IsLeft l.initial.gifts l.gifts (map (default_route l.dev l.metric) l.gateways) (map (default_route l.dev l.metric) (drop l.gateway-index l.gateways))
