use Rattle.std.proofs.Common.{◌≡◌, ◌++◌, map, drop}
use Rattle.std.specs.Prelude.{filter}
use Rattle.net_rows.specs.declared.fault_name.FaultName.TheVariants as fault
use Rattle.net_devices.specs.Levels.{is_bridge}
use Rattle.net_devices.specs.Faults as spec
use Rattle.net_devices.proofs.faults.add_bridge_ports.Given as goal

-- the faults so far, and then those of the other ports
abbrev pub invariant-loop-port : goal.invariant-loop-port
invariant-loop-port l = l.faults ++ map (spec.about fault.BridgePort) (filter (is_bridge l.said) (drop l.port-index l.ports)) ≡ l.initial.faults ++ map (spec.about fault.BridgePort) (filter (is_bridge l.said) l.ports)
