use Rattle.std.proofs.Common.{◌≡◌, take}
use Rattle.std.specs.List.{flat_map}
use Rattle.net_rules.specs.Firsts.{firsts}
use Rattle.net_rules.specs.RadioPorts.{ports_of_radio}
use Rattle.net_looks.specs.Look.{facts_at}
use Rattle.net_looks.specs.Ports.{port_for}
use Rattle.net_looks.proofs.look.Look.first_port.Given as goal

-- the port is the first of those of the radios so far
abbrev pub invariant-loop-place : goal.invariant-loop-place
invariant-loop-place l = l.found ≡ port_for l.interface (flat_map (ports_of_radio (facts_at l.self)) (firsts (λ row. row.name) (take l.place l.radios)))
