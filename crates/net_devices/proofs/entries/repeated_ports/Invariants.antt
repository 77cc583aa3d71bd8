use Rattle.std.proofs.Common.{◌≡◌, drop}
use Rattle.net_devices.specs.EachOnce.{with_names}
use Rattle.net_devices.specs.Entries as spec
use Rattle.net_devices.proofs.entries.repeated_ports.Given as goal

-- the ports so far, with those of the other entries
abbrev pub invariant-loop-entry : goal.invariant-loop-entry
invariant-loop-entry l = with_names l.repeated (spec.repeated_behind l.ports (drop l.entry-index l.entries)) ≡ spec.repeated_ports l.entries
