use Rattle.std.proofs.Common.{map, drop}
use Rattle.net_wants.specs.Given.{answer_route}
use Rattle.net_looks.proofs.GivingLemmas.{IsLeft}
use Rattle.net_looks.proofs.giving.change_answer_routes.Given as goal

-- what is left is of the other routes
abbrev pub invariant-loop-route : goal.invariant-loop-route
invariant-loop-route l = IsLeft l.change l.initial.gifts l.gifts (map (answer_route l.dev) l.routes) (map (answer_route l.dev) (drop l.route-index l.routes))
