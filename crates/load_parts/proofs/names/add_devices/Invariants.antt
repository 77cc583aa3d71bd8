use Rattle.std.proofs.Common.{◌≡◌, ◌++◌, drop}
use Rattle.std.specs.List.{filter_map}
use Rattle.load_parts.specs.Further.{further_device}
use Rattle.load_parts.proofs.names.add_devices.Given as goal

-- the names so far, and those of the others
abbrev pub invariant-loop-entry : goal.invariant-loop-entry
invariant-loop-entry l = l.names.items ++ filter_map (further_device l.inputs.conf) (drop l.entry-index l.devices) ≡ l.initial.names.items ++ filter_map (further_device l.inputs.conf) l.devices
