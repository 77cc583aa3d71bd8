use Rattle.std.proofs.Common.{◌≡◌, drop, reverse}
use Rattle.net_devices.specs.Counted as spec
use Rattle.net_devices.specs.FoundNames.{AreNamesOf}
use Rattle.net_devices.proofs.counted.all_said.Given as goal

-- what the sections from here on say, the last one first, and their names
abbrev pub invariant-loop-place : goal.invariant-loop-place
invariant-loop-place l = record {
  said : reverse l.said.items ≡ spec.all_said (drop l.place l.sections);
  names : AreNamesOf l.names (drop l.place l.sections);
}
