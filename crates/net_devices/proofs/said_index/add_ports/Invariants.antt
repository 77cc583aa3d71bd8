use Rattle.std.proofs.Common.{take}
use Rattle.net_devices.specs.Found.{HasPortsToo}
use Rattle.net_devices.proofs.said_index.add_ports.Given as goal

-- the ports so far are there too
abbrev pub invariant-loop-port : goal.invariant-loop-port
invariant-loop-port l = HasPortsToo l.initial.owners l.owners l.bridge (take l.port-index l.ports)
