use Rattle.std.proofs.Common.{◌≡◌, drop}
use Rattle.std.specs.Prelude.{fold}
use Rattle.net_devices.specs.BridgeVlans as spec
use Rattle.net_devices.specs.VlanTable.{IsTable}
use Rattle.net_devices.proofs.bridge_vlans.vlan_rows.Given as goal

-- the rows so far, with those of the other sections
abbrev pub invariant-loop-section : goal.invariant-loop-section
invariant-loop-section l = record {
  table : IsTable l.table;
  rows : fold (spec.with_vlan l.said) l.table.rows (drop l.section-index l.sections) ≡ spec.vlan_rows l.said l.sections;
}
