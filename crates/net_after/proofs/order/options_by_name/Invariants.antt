use Rattle.std.proofs.Common.{drop}
use Rattle.net_rules.specs.Need.{in_order}
use Rattle.net_after.specs.ByName.{IsByName}
use Rattle.net_after.proofs.order.options_by_name.Given as goal

-- the map has the options from here on
abbrev pub invariant-loop-place : goal.invariant-loop-place
invariant-loop-place l = IsByName (in_order (drop l.place l.options)) l.by_name
