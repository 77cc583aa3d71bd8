use Rattle.std.proofs.Common.{◌≡◌, ◌++◌, take, drop}
use Rattle.net_devices.specs.FoundLevels.{AreLevels}
use Rattle.net_devices.specs.FoundVlans.{HasVlansOf}
use Rattle.net_devices.specs.NameRows as spec
use Rattle.net_devices.proofs.name_rows.rows_of_names.Given as goal

-- the rows so far, and then those of the other names
abbrev pub invariant-loop-name : goal.invariant-loop-name
invariant-loop-name l = record {
  levels : AreLevels l.said l.levels;
  vlans : HasVlansOf l.said l.vlans (take l.name-index l.names);
  rows : l.rows ++ spec.rows_behind l.said (take l.name-index l.names) (drop l.name-index l.names) ≡ spec.name_rows l.said l.names;
}
