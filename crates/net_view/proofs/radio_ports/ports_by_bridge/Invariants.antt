use Rattle.std.proofs.Common.{map, take}
use Rattle.net_view.specs.RadioPorts.{as_joined, HasPorts}
use Rattle.net_view.proofs.radio_ports.ports_by_bridge.Given as goal

-- the map has the ports so far
abbrev pub invariant-loop-join : goal.invariant-loop-join
invariant-loop-join l = HasPorts l.groups (map as_joined (take l.join-index l.joins))
