use Rattle.std.proofs.Common.{◌≡◌, ◌≤◌, ◌-◌, map, drop}
use Rattle.std.specs.Prelude.{fold, max}
use Rattle.net_devices.specs.FoundLevels.{AreLevels}
use Rattle.net_devices.specs.Levels as spec
use Rattle.net_devices.proofs.levels.+level_within.Given as goal

abbrev pub decreases-level_within : goal.decreases-level_within
decreases-level_within l = l.more

-- the highest level so far, with those of the others
abbrev pub invariant-loop-lower : goal.invariant-loop-lower
invariant-loop-lower l = record {
  kept : AreLevels l.said l.levels;
  highest : fold max l.highest (map (spec.level_within l.said (l.more - 1)) (drop l.lower-index l.lowers)) ≡ spec.highest (map (spec.level_within l.said (l.more - 1)) l.lowers);
  bound : l.highest ≤ l.more;
}
