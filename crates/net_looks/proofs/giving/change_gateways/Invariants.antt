use Rattle.std.proofs.Common.{map, drop}
use Rattle.net_rules.specs.Want.{default_route}
use Rattle.net_looks.proofs.GivingLemmas.{IsLeft}
use Rattle.net_looks.proofs.giving.change_gateways.Given as goal

-- what is left is of the other gateways
abbrev pub invariant-loop-gateway : goal.invariant-loop-gateway
invariant-loop-gateway l = IsLeft l.change l.initial.gifts l.gifts (map (default_route l.dev l.metric) l.gateways) (map (default_route l.dev l.metric) (drop l.gateway-index l.gateways))
