-- VLANs that were found.
use Rattle.std.specs.Prelude.{ℕ, ◌≡◌, Bool, false, ◌||◌, List, Option, Some, None}
use Rattle.std.specs.List.{list_any}
use Rattle.std.specs.BTreeSet.{BTreeSet, contains}
use Rattle.net_rows.specs.declared.dotted.VlanParts.{VlanParts}
use Rattle.net_devices.specs.declared.said.Said.{Said}
use Rattle.net_devices.specs.Kinds.{kind_of}
use Rattle.net_devices.specs.NameRows.{vlan_of, is_vlan_at}
use Rattle.net_devices.specs.VlanTable.{vlan_cmp}

-- the VLAN is among these
abbrev pub has_vlan : BTreeSet (List ℕ × ℕ) → Option VlanParts → Bool
has_vlan vlans None = false
has_vlan vlans (Some vlan) = contains vlan_cmp vlans (vlan.lower, vlan.id)

-- the set has this VLAN too, where there is one
abbrev pub HasVlanToo : BTreeSet (List ℕ × ℕ) → BTreeSet (List ℕ × ℕ) → Option VlanParts → Type 0
HasVlanToo old new vlan = (at : List ℕ × ℕ) → contains vlan_cmp new at
    ≡ (contains vlan_cmp old at || is_vlan_at at.0 at.1 vlan)

-- the set has the VLANs that these names are
abbrev pub HasVlansOf : List Said → BTreeSet (List ℕ × ℕ) → List (List ℕ) → Type 0
HasVlansOf said vlans names = (at : List ℕ × ℕ) → contains vlan_cmp vlans at
    ≡ list_any (λ name. is_vlan_at at.0 at.1 (vlan_of (kind_of said name))) names
