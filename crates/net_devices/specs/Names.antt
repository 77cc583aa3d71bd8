-- The names of network devices that a configuration speaks of (OpenWrt's network configuration; the order of the list
-- is a rule of our own).
use Rattle.std.specs.Prelude.{ℕ, zero, suc, Bool, false, List, [], ◌∷◌, ◌++◌, Option, Some, None, if◌then◌else◌}
use Rattle.std.specs.Prelude.{bytes_eq}
use Rattle.std.specs.List.{flat_map}
use Rattle.net_rows.specs.declared.stated.Stated.{Stated}
use Rattle.net_rows.specs.declared.stated.Stated.TheVariants.{Absent, Unread, Read}
use Rattle.net_rows.specs.declared.dotted.VlanParts.{VlanParts}
use Rattle.net_rows.specs.Dotted.{vlan_parts}
use Rattle.net_devices.specs.declared.said.StatedKind.{StatedKind}
use Rattle.net_devices.specs.declared.said.StatedKind.TheVariants.{Untyped, Wrong, Bridge, Vlan}
use Rattle.net_devices.specs.declared.said.DeviceSection.{DeviceSection}
use Rattle.net_devices.specs.declared.said.Said.{Said}
use Rattle.net_devices.specs.declared.said.Said.TheVariants.{Device, Interface}
use Rattle.net_devices.specs.declared.names.TheConstants.{MOST_LOWERS}
use Rattle.net_devices.specs.EachOnce.{each_once}

-- what was read is this name
abbrev pub is_read : List ℕ → Stated (List ℕ) → Bool
is_read name Absent = false
is_read name Unread = false
is_read name (Read other) = bytes_eq other name

-- the section of a name, among those that count
abbrev pub section_of : List Said → List ℕ → Option DeviceSection
section_of [] name = None
section_of (Device section ∷ others) name = if is_read name section.name then Some section else section_of others name
section_of (Interface device ∷ others) name = section_of others name

-- a name of the form X.N is VLAN N over X, where its section, if there is one, has no type
abbrev pub implied_by_kind : List ℕ → StatedKind → Option VlanParts
implied_by_kind name Untyped = vlan_parts name
implied_by_kind name Wrong = None
implied_by_kind name (Bridge empty ports bad_ports) = None
implied_by_kind name (Vlan lower id) = None

abbrev pub implied_by : List ℕ → Option DeviceSection → Option VlanParts
implied_by name None = vlan_parts name
implied_by name (Some section) = implied_by_kind name section.kind

abbrev pub implied : List Said → List ℕ → Option VlanParts
implied said name = implied_by name (section_of said name)

-- what is listed for the lower of a VLAN, where there is one
abbrev pub under : (List ℕ → List (List ℕ)) → Option VlanParts → List (List ℕ)
under listed None = []
under listed (Some parts) = listed parts.lower

-- a name, and so many of the lowers that are implied one under another
abbrev pub with_lowers : List Said → ℕ → List ℕ → List (List ℕ)
with_lowers said zero name = name ∷ []
with_lowers said (suc more) name = name ∷ under (with_lowers said more) (implied said name)

abbrev pub mentioned : List Said → List ℕ → List (List ℕ)
mentioned said name = with_lowers said MOST_LOWERS name

-- the lower that a name implies
abbrev pub lower_of : List Said → Option VlanParts → List (List ℕ)
lower_of said None = []
lower_of said (Some parts) = mentioned said parts.lower

-- what is mentioned by a `device` section without a type: the lower of its name
abbrev pub mentioned_by_name : List Said → Stated (List ℕ) → List (List ℕ)
mentioned_by_name said Absent = []
mentioned_by_name said Unread = []
mentioned_by_name said (Read name) = lower_of said (vlan_parts name)

-- a name that an option gives
abbrev pub mentioned_if_read : List Said → Stated (List ℕ) → List (List ℕ)
mentioned_if_read said Absent = []
mentioned_if_read said Unread = []
mentioned_if_read said (Read name) = mentioned said name

-- what is mentioned by a `device` section of this name and kind
abbrev pub mentioned_by_kind : List Said → Stated (List ℕ) → StatedKind → List (List ℕ)
mentioned_by_kind said name Untyped = mentioned_by_name said name
mentioned_by_kind said name Wrong = []
mentioned_by_kind said name (Bridge empty ports bad_ports) = flat_map (mentioned said) ports
mentioned_by_kind said name (Vlan lower id) = mentioned_if_read said lower

-- the names that a section mentions
abbrev pub mentioned_by : List Said → Said → List (List ℕ)
mentioned_by said (Device section) = mentioned_by_kind said section.name section.kind
mentioned_by said (Interface device) = mentioned said device

abbrev pub name_if_read : Stated (List ℕ) → List (List ℕ)
name_if_read Absent = []
name_if_read Unread = []
name_if_read (Read name) = name ∷ []

-- the name of a `device` section
abbrev pub own_name : Said → List (List ℕ)
own_name (Device section) = name_if_read section.name
own_name (Interface device) = []

-- the names of the sections in file order, then all that are mentioned, section by section, each at its first place
abbrev pub names : List Said → List (List ℕ)
names said = each_once (flat_map own_name said ++ flat_map (mentioned_by said) said)
