use Rattle.std.proofs.Common.{◌≡◌, map, take}
use Rattle.serde_json.specs.View.{view}
use Rattle.net_status.specs.Given.{route_item}
use Rattle.net_status.proofs.given.told_items.Given as goal

-- the routes so far
abbrev pub invariant-loop-route : goal.invariant-loop-route
invariant-loop-route l = map view l.items.items ≡ map route_item (take l.route-index l.routes)
