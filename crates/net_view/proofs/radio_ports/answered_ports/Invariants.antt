use Rattle.std.proofs.Common.{◌≡◌, map, take}
use Rattle.std.specs.List.{flat_map}
use Rattle.net_rules.specs.Firsts.{firsts}
use Rattle.net_rules.specs.RadioPorts.{ports_of_radio}
use Rattle.net_rules.specs.Inputs.{facts_of}
use Rattle.net_view.specs.RadioPorts.{as_answered}
use Rattle.net_view.proofs.radio_ports.answered_ports.Given as goal

-- the ports are those of the radios so far
abbrev pub invariant-loop-place : goal.invariant-loop-place
invariant-loop-place l = map as_answered l.ports.items ≡ flat_map (ports_of_radio (facts_of l.inputs)) (firsts (λ row. row.name) (take l.place l.radios))
