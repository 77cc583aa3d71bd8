use Rattle.std.proofs.Common.{◌≡◌, map, take}
use Rattle.serde_json.specs.View.{view}
use Rattle.net_rules.specs.Firsts.{firsts}
use Rattle.net_status.specs.Interfaces.{interface_shown}
use Rattle.net_status.proofs.interfaces.all_shown.Given as goal

-- the interfaces so far are shown
abbrev pub invariant-loop-place : goal.invariant-loop-place
invariant-loop-place l = map view l.items.items ≡ map (interface_shown l.inputs) (firsts (λ row. row.name) (take l.place l.interfaces))
