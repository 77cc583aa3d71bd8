use Rattle.std.proofs.Common.{◌≡◌, ◌++◌, map, drop}
use Rattle.net_devices.specs.Faults as spec
use Rattle.net_devices.proofs.faults.add_about_names.Given as goal

-- the faults so far, and then those of the other ports
abbrev pub invariant-loop-port : goal.invariant-loop-port
invariant-loop-port l = l.faults ++ map (spec.about l.name) (drop l.port-index l.ports) ≡ l.initial.faults ++ map (spec.about l.name) l.ports
