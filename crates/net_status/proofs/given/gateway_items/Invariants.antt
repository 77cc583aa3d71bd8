use Rattle.std.proofs.Common.{◌≡◌, map, take}
use Rattle.serde_json.specs.View.{view}
use Rattle.net_status.specs.Given.{gateway_route, route_item}
use Rattle.net_status.proofs.given.gateway_items.Given as goal

-- the routes of the gateways so far
abbrev pub invariant-loop-gateway : goal.invariant-loop-gateway
invariant-loop-gateway l = map view l.items.items ≡ map route_item (map (gateway_route l.metric) (take l.gateway-index l.gateways))
