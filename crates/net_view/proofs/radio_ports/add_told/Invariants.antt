use Rattle.std.proofs.Common.{◌≡◌, ◌++◌, map, drop}
use Rattle.std.specs.List.{filter_map, zip}
use Rattle.net_rules.specs.Inputs.{facts_of}
use Rattle.net_view.specs.RadioPorts.{as_answered, port_of_pair, enabled}
use Rattle.net_view.proofs.radio_ports.add_told.Given as goal

-- the ports so far, and then those of the other rows
abbrev pub invariant-loop-row : goal.invariant-loop-row
invariant-loop-row l = map as_answered l.ports.items ++ filter_map (port_of_pair (facts_of l.inputs)) (zip (enabled (drop l.row-index l.rows)) l.rest) ≡ map as_answered l.initial.ports.items
    ++ filter_map (port_of_pair (facts_of l.inputs)) (zip (enabled l.rows) l.told)
