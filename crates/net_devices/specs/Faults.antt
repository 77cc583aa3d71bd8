-- What is wrong with `device` sections, in the order in which a row tells it (OpenWrt's network configuration; the
-- names of the faults are our own).
use Rattle.std.specs.Prelude.{ℕ, Bool, true, false, not, List, [], ◌∷◌, ◌++◌, map, filter, Some, None, if◌then◌else◌}
use Rattle.net_rows.specs.declared.stated.Stated.{Stated}
use Rattle.net_rows.specs.declared.stated.Stated.TheVariants.{Absent, Unread, Read}
use Rattle.net_rows.specs.declared.fault_name.FaultName.{FaultName}
use Rattle.net_rows.specs.declared.fault_name.FaultName.TheVariants as fault
use Rattle.net_rows.specs.declared.rows.RowFault.{RowFault}
use Rattle.net_devices.specs.declared.said.StatedKind.{StatedKind}
use Rattle.net_devices.specs.declared.said.StatedKind.TheVariants.{Untyped, Wrong, Bridge, Vlan}
use Rattle.net_devices.specs.declared.said.DeviceSection.{DeviceSection}
use Rattle.net_devices.specs.declared.said.Said.{Said}
use Rattle.net_devices.specs.Levels.{is_bridge}

-- a fault by itself, and one about a port
abbrev pub bare : FaultName → RowFault
bare name = record { name = name; argument = None }

abbrev pub about : FaultName → List ℕ → RowFault
about name port = record { name = name; argument = Some port }

-- one fault, where it is there
abbrev pub if_so : Bool → FaultName → List RowFault
if_so there name = if there then bare name ∷ [] else []

abbrev pub is_unread : {X : Type 0} → Stated X → Bool
is_unread Absent = false
is_unread Unread = true
is_unread (Read x) = false

abbrev pub is_read : {X : Type 0} → Stated X → Bool
is_read Absent = false
is_read Unread = false
is_read (Read x) = true

-- no name, or none that is a device name
abbrev pub naming_faults : Stated (List ℕ) → List RowFault
naming_faults Absent = bare fault.NoName ∷ []
naming_faults Unread = bare fault.BadName ∷ []
naming_faults (Read name) = []

-- a VLAN has no identifier, or no name below it
abbrev pub vlan_faults : Stated (List ℕ) → Stated ℕ → List RowFault
vlan_faults lower id = if_so (not (is_read id)) fault.BadVid ++ if_so (not (is_read lower)) fault.BadLower

-- what is wrong with what a section states of its kind
abbrev pub kind_faults : List Said → StatedKind → List RowFault
kind_faults said Untyped = []
kind_faults said Wrong = bare fault.WrongType ∷ []
kind_faults said (Bridge empty ports bad_ports) = map (about fault.BadPort) bad_ports
    ++ map (about fault.BridgePort) (filter (is_bridge said) ports)
kind_faults said (Vlan lower id) = vlan_faults lower id

-- options that are passed over since they do not read
abbrev pub value_faults : DeviceSection → List RowFault
value_faults section = if_so (is_unread section.mtu) fault.BadMtu ++ if_so (is_unread section.mac) fault.BadMac
