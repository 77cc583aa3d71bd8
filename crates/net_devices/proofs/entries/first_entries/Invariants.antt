use Rattle.std.proofs.Common.{◌≡◌, ◌++◌, drop}
use Rattle.net_devices.specs.Entries as spec
use Rattle.net_devices.proofs.entries.first_entries.Given as goal

-- the first entries so far, and then those of the other ports
abbrev pub invariant-loop-entry : goal.invariant-loop-entry
invariant-loop-entry l = l.first ++ spec.first_behind l.ports (drop l.entry-index l.entries) ≡ spec.first_entries l.entries
