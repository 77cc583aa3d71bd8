-- The kinds of names, with the own ports of bridges (OpenWrt's network configuration).
use Rattle.std.specs.Prelude.{ℕ, Bool, false, List, [], ◌∷◌, filter, Option, Some, None, if◌then◌else◌, bytes_eq}
use Rattle.net_rows.specs.declared.stated.Stated.{Stated}
use Rattle.net_rows.specs.declared.stated.Stated.TheVariants.{Absent, Unread, Read}
use Rattle.net_rows.specs.declared.dotted.VlanParts.{VlanParts}
use Rattle.net_rows.specs.Dotted.{vlan_parts}
use Rattle.net_rows.specs.declared.rows.NameKind.{NameKind}
use Rattle.net_rows.specs.declared.rows.NameKind.TheVariants as is
use Rattle.net_devices.specs.declared.said.StatedKind.{StatedKind}
use Rattle.net_devices.specs.declared.said.StatedKind.TheVariants.{Untyped, Wrong, Bridge, Vlan}
use Rattle.net_devices.specs.declared.said.DeviceSection.{DeviceSection}
use Rattle.net_devices.specs.declared.said.Said.{Said}
use Rattle.net_devices.specs.declared.said.Said.TheVariants.{Device, Interface}
use Rattle.net_devices.specs.EachOnce.{has}
use Rattle.net_devices.specs.Names.{section_of}
use Rattle.net_devices.specs.Levels.{is_bridge}

-- a value that was read
abbrev pub if_read : {X : Type 0} → Stated X → Option X
if_read Absent = None
if_read Unread = None
if_read (Read x) = Some x

abbrev pub names_port : List ℕ → StatedKind → Bool
names_port port Untyped = false
names_port port Wrong = false
names_port port (Bridge empty ports bad_ports) = has ports port
names_port port (Vlan lower id) = false

-- the bridge that a section makes, where it names this port
abbrev pub owner_by : List ℕ → DeviceSection → Option (List ℕ)
owner_by port section = if names_port port section.kind then if_read section.name else None

abbrev pub owner_in : List ℕ → Said → Option (List ℕ)
owner_in port (Device section) = owner_by port section
owner_in port (Interface device) = None

abbrev pub owner_or : Option (List ℕ) → Option (List ℕ) → Option (List ℕ)
owner_or None later = later
owner_or (Some owner) later = Some owner

-- the first bridge in file order that names a port
abbrev pub owner : List Said → List ℕ → Option (List ℕ)
owner [] port = None
owner (saying ∷ others) port = owner_or (owner_in port saying) (owner others port)

abbrev pub is_name : List ℕ → Option (List ℕ) → Bool
is_name name None = false
is_name name (Some other) = bytes_eq other name

-- a port belongs to the bridge: it is no bridge, and this is the first one that names it
abbrev pub is_own_port : List Said → List ℕ → List ℕ → Bool
is_own_port said bridge port = if is_bridge said port then false else is_name bridge (owner said port)

abbrev pub own_ports : List Said → List ℕ → List (List ℕ) → List (List ℕ)
own_ports said bridge ports = filter (is_own_port said bridge) ports

abbrev pub id_or_zero : Stated ℕ → ℕ
id_or_zero Absent = 0
id_or_zero Unread = 0
id_or_zero (Read id) = id

-- the kind of a name without a type
abbrev pub untyped_kind : Option VlanParts → NameKind
untyped_kind None = is.Plain
untyped_kind (Some parts) = is.Vlan (Some parts.lower) parts.id

-- the kind by what the section states; a name with a wrong type is plain
abbrev pub kind_by : List Said → List ℕ → StatedKind → NameKind
kind_by said name Untyped = untyped_kind (vlan_parts name)
kind_by said name Wrong = is.Plain
kind_by said name (Bridge empty ports bad_ports) = is.Bridge empty (own_ports said name ports)
kind_by said name (Vlan lower id) = is.Vlan (if_read lower) (id_or_zero id)

abbrev pub kind_in : List Said → List ℕ → Option DeviceSection → NameKind
kind_in said name None = untyped_kind (vlan_parts name)
kind_in said name (Some section) = kind_by said name section.kind

-- the kind of a name
abbrev pub kind_of : List Said → List ℕ → NameKind
kind_of said name = kind_in said name (section_of said name)
