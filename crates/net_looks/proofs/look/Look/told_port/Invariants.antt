use Rattle.std.proofs.Common.{◌≡◌, drop}
use Rattle.std.specs.List.{filter_map, zip}
use Rattle.net_view.specs.RadioPorts.{port_of_pair, enabled}
use Rattle.net_looks.specs.Look.{facts_at}
use Rattle.net_looks.specs.Ports.{port_for}
use Rattle.net_looks.proofs.look.Look.told_port.Given as goal

-- the first port of the other rows is that of all
abbrev pub invariant-loop-row : goal.invariant-loop-row
invariant-loop-row l = port_for l.interface (filter_map (port_of_pair (facts_at l.self)) (zip (enabled (drop l.row-index l.rows)) l.rest)) ≡ port_for l.interface (filter_map (port_of_pair (facts_at l.self)) (zip (enabled l.rows) l.told))
