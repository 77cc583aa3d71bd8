use Rattle.std.proofs.Common.{◌≡◌, ◌++◌, drop}
use Rattle.net_devices.specs.Kinds as spec
use Rattle.net_devices.proofs.kinds.own_ports.Given as goal

-- those so far, and then those of the others
abbrev pub invariant-loop-port : goal.invariant-loop-port
invariant-loop-port l = l.own ++ spec.own_ports l.said l.bridge (drop l.port-index l.ports) ≡ spec.own_ports l.said l.bridge l.ports
