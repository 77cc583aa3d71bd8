-- What the reader of `bridge-vlan` sections keeps beside the rows so far.
use Rattle.std.specs.Prelude.{ℕ, ◌≡◌, ◌||◌, ◌&&◌, Some, List, bytes_eq}
use Rattle.std.specs.List.{list_any}
use Rattle.std.specs.Ordering.{nat_cmp, ordering_then}
use Rattle.std.specs.Cmp.Lexicographic.{slice_cmp}
use Rattle.std.specs.declared.cmp.Ordering.{Ordering}
use Rattle.std.specs.BTreeSet.{BTreeSet, contains}
use Rattle.net_rows.specs.declared.rows.VlanEntry.{VlanEntry}
use Rattle.net_devices.specs.declared.vlan_table.VlanTable.{VlanTable}
use Rattle.net_devices.specs.BridgeVlans.{gives_pvid, is_repeated, has_pvid}

abbrev pub vlan_cmp : List ℕ × ℕ → List ℕ × ℕ → Ordering
vlan_cmp vlan other = ordering_then (slice_cmp nat_cmp vlan.0 other.0) (nat_cmp vlan.1 other.1)

abbrev pub port_cmp : List ℕ × List ℕ → List ℕ × List ℕ → Ordering
port_cmp port other = ordering_then (slice_cmp nat_cmp port.0 other.0) (slice_cmp nat_cmp port.1 other.1)

-- a bridge's ports with a PVID, with those of these entries
abbrev pub HasPvidsToo : BTreeSet (List ℕ × List ℕ) → BTreeSet (List ℕ × List ℕ) → List ℕ → List VlanEntry → Type 0
HasPvidsToo old new bridge entries = (port : List ℕ × List ℕ) → contains port_cmp new port
    ≡ (contains port_cmp old port || (bytes_eq bridge port.0 && list_any (gives_pvid port.1) entries))

-- the sets have the VLANs and the ports with a PVID of the rows that count
pub record IsTable (table : VlanTable) : Type 0 where
  pub vlans : (vlan : List ℕ × ℕ) → contains vlan_cmp table.vlans vlan ≡ is_repeated table.rows (Some vlan.0) vlan.1
  pub pvids : (port : List ℕ × List ℕ) → contains port_cmp table.pvids port ≡ has_pvid table.rows (Some port.0) port.1
