-- The rows of `device` sections and of names (OpenWrt's network configuration).
use Rattle.std.specs.Prelude.{ℕ, Bool, true, false, ◌==◌, ◌&&◌, nat_lt, List, [], ◌∷◌, ◌++◌, map, filter, Option, Some}
use Rattle.std.specs.Prelude.{None, if◌then◌else◌, bytes_eq}
use Rattle.std.specs.List.{list_any}
use Rattle.uci_tree.specs.declared.package.Section.{Section}
use Rattle.kern_model.specs.declared.object.Mac.{Mac}
use Rattle.net_rows.specs.declared.dotted.VlanParts.{VlanParts}
use Rattle.net_rows.specs.declared.fault_name.FaultName.{FaultName}
use Rattle.net_rows.specs.declared.fault_name.FaultName.TheVariants as fault
use Rattle.net_devices.specs.declared.levels.TheConstants.{MOST_LEVELS}
use Rattle.net_rows.specs.declared.rows.RowFault.{RowFault}
use Rattle.net_rows.specs.declared.rows.NameKind.{NameKind}
use Rattle.net_rows.specs.declared.rows.NameKind.TheVariants.{Plain, Bridge, Vlan}
use Rattle.net_rows.specs.declared.rows.DeviceRow.{DeviceRow}
use Rattle.net_rows.specs.declared.rows.NameRow.{NameRow}
use Rattle.net_devices.specs.declared.said.DeviceSection.{DeviceSection}
use Rattle.net_devices.specs.declared.said.Said.{Said}
use Rattle.net_devices.specs.Said.{device_section}
use Rattle.net_devices.specs.Counted.{is_device}
use Rattle.net_devices.specs.Names.{section_of}
use Rattle.net_devices.specs.Levels.{level}
use Rattle.net_devices.specs.Kinds.{if_read, kind_of}
use Rattle.net_devices.specs.Faults.{naming_faults, kind_faults, value_faults, if_so}

-- the row of a `device` section
abbrev pub device_row : List Said → DeviceSection → DeviceRow
device_row said section = record {
  name = if_read section.name;
  faults = naming_faults section.name ++ kind_faults said section.kind ++ value_faults section;
}

-- the rows of all `device` sections, also of those that do not count
abbrev pub device_rows : List Said → List Section → List DeviceRow
device_rows said sections = map (λ section. device_row said (device_section section.options))
    (filter is_device sections)

-- a VLAN whose identifier and lower name are told
abbrev pub told_vlan : Option (List ℕ) → ℕ → Option VlanParts
told_vlan None id = None
told_vlan (Some lower) id = if id == 0 then None else Some (record { lower = lower; id = id })

abbrev pub vlan_of : NameKind → Option VlanParts
vlan_of Plain = None
vlan_of (Bridge empty ports) = None
vlan_of (Vlan lower id) = told_vlan lower id

-- it is the VLAN of this identifier over this name
abbrev pub is_vlan_at : List ℕ → ℕ → Option VlanParts → Bool
is_vlan_at lower id None = false
is_vlan_at lower id (Some vlan) = bytes_eq vlan.lower lower && (vlan.id == id)

-- one of these names is the same VLAN
abbrev pub is_vlan_of_some : List Said → List (List ℕ) → Option VlanParts → Bool
is_vlan_of_some said names None = false
is_vlan_of_some said names (Some vlan) =
    list_any (λ name. is_vlan_at vlan.lower vlan.id (vlan_of (kind_of said name))) names

-- an earlier name is the same VLAN as a name of this kind
abbrev pub has_same_vlan : List Said → List (List ℕ) → NameKind → Bool
has_same_vlan said earlier kind = is_vlan_of_some said earlier (vlan_of kind)

abbrev pub is_too_high : List Said → List ℕ → Bool
is_too_high said name = nat_lt MOST_LEVELS (level said name)

-- the faults of a name: of its section's kind, those found at the name itself, and of the options that its section
-- gives
abbrev pub name_faults : List Said → Bool → Bool → Option DeviceSection → List RowFault
name_faults said is_same is_too_high None = if_so is_same fault.SameVlan ++ if_so is_too_high fault.TooHigh
name_faults said is_same is_too_high (Some section) = kind_faults said section.kind ++ if_so is_same fault.SameVlan
    ++ if_so is_too_high fault.TooHigh ++ value_faults section

-- the faults of a name, where an earlier one is the same VLAN or not
abbrev pub faults_of : List Said → Bool → List ℕ → List RowFault
faults_of said is_same name = name_faults said is_same (is_too_high said name) (section_of said name)

-- a fault makes the device unavailable, but for one of a port or of an option that is passed over
abbrev pub breaks : FaultName → Bool
breaks fault.BadPort = false
breaks fault.BridgePort = false
breaks fault.BadMtu = false
breaks fault.BadMac = false
breaks other = true

abbrev pub is_broken : List RowFault → Bool
is_broken faults = list_any (λ found. breaks found.name) faults

abbrev pub mtu_of : Option DeviceSection → Option ℕ
mtu_of None = None
mtu_of (Some section) = if_read section.mtu

abbrev pub mac_of : Option DeviceSection → Option Mac
mac_of None = None
mac_of (Some section) = if_read section.mac

-- the row of a name, where an earlier one is the same VLAN or not
abbrev pub row_of : List Said → Bool → List ℕ → NameRow
row_of said is_same name = record {
  name = name;
  kind = kind_of said name;
  level = level said name;
  broken = is_broken (faults_of said is_same name);
  mtu = mtu_of (section_of said name);
  mac = mac_of (section_of said name);
  faults = faults_of said is_same name;
}

-- the row of a name behind these
abbrev pub name_row : List Said → List (List ℕ) → List ℕ → NameRow
name_row said earlier name = row_of said (has_same_vlan said earlier (kind_of said name)) name

-- the rows of names that stand behind these
abbrev pub rows_behind : List Said → List (List ℕ) → List (List ℕ) → List NameRow
rows_behind said earlier [] = []
rows_behind said earlier (name ∷ later) = name_row said earlier name ∷ rows_behind said (earlier ++ name ∷ []) later

-- the rows of names, in their order
abbrev pub name_rows : List Said → List (List ℕ) → List NameRow
name_rows said names = rows_behind said [] names
