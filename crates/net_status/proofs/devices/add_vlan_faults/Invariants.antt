use Rattle.std.proofs.Common.{◌≡◌, ◌++◌, map, drop}
use Rattle.std.specs.List.{flat_map}
use Rattle.serde_json.specs.View.{view}
use Rattle.net_status.specs.Faults.{fault_item}
use Rattle.net_status.specs.Devices.{faults_on}
use Rattle.net_status.proofs.devices.add_vlan_faults.Given as goal

-- the items so far, and those of the other rows
abbrev pub invariant-loop-row : goal.invariant-loop-row
invariant-loop-row l = map view l.items.items ++ map fault_item (flat_map (faults_on l.name) (drop l.row-index l.vlans)) ≡ map view l.fn.items.items ++ map fault_item (flat_map (faults_on l.name) l.vlans)
