use Rattle.std.proofs.Common.{◌≡◌, ◌++◌, drop}
use Rattle.net_devices.specs.Levels as spec
use Rattle.net_devices.proofs.levels.no_bridges.Given as goal

-- those so far, and then those of the others
abbrev pub invariant-loop-name : goal.invariant-loop-name
invariant-loop-name l = l.kept ++ spec.no_bridges l.said (drop l.name-index l.names) ≡ spec.no_bridges l.said l.names
