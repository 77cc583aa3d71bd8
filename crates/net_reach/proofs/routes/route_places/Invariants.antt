use Rattle.std.proofs.Common.{◌≡◌, ℕ, List, map, take, Some}
use Rattle.std.specs.Prelude.{filter}
use Rattle.std.specs.List.{slice_get}
use Rattle.net_wants.specs.Grouped.{is_route_named}
use Rattle.net_view.specs.RadioPorts.{group_in}
use Rattle.net_reach.proofs.routes.route_places.Given as goal

-- the map has the places of the rows so far
abbrev pub invariant-loop-place : goal.invariant-loop-place
invariant-loop-place l = (name : List ℕ) → map (slice_get l.routes) (group_in l.groups name) ≡ map Some (filter (is_route_named l.inputs.conf name) (take l.place l.routes))
