-- Maps through which the section of a name and the bridge of a port are found.
use Rattle.std.specs.Prelude.{ℕ, ◌≡◌, Bool, List, Option, Some, None, if◌then◌else◌, position, slice_get}
use Rattle.std.specs.Ordering.{nat_cmp}
use Rattle.std.specs.Cmp.Lexicographic.{slice_cmp}
use Rattle.std.specs.BTreeMap.{BTreeMap, get}
use Rattle.uci_tree.specs.Index.{first_place}
use Rattle.net_devices.specs.declared.said.StatedKind.{StatedKind}
use Rattle.net_devices.specs.declared.said.DeviceSection.{DeviceSection}
use Rattle.net_devices.specs.declared.said.Said.{Said}
use Rattle.net_devices.specs.declared.said.Said.TheVariants.{Device, Interface}
use Rattle.net_devices.specs.EachOnce.{has}
use Rattle.net_devices.specs.Kinds.{if_read, is_name, names_port, owner_in, owner_or, owner}

-- the name that a `device` section gives
abbrev pub name_of : Said → Option (List ℕ)
name_of (Device section) = if_read section.name
name_of (Interface device) = None

-- it is a section of this name
abbrev pub is_of : List ℕ → Said → Bool
is_of name saying = is_name name (name_of saying)

abbrev pub section_in : Option Said → Option DeviceSection
section_in None = None
section_in (Some (Device section)) = Some section
section_in (Some (Interface device)) = None

-- the section at a place
abbrev pub section_at : List Said → Option ℕ → Option DeviceSection
section_at said None = None
section_at said (Some place) = section_in (slice_get said place)

-- the map has the place of the first section of each name
abbrev pub HasPlaces : BTreeMap (List ℕ) ℕ → List Said → Type 0
HasPlaces places said = (name : List ℕ) → get (slice_cmp nat_cmp) places name ≡ position (is_of name) said

-- the map has the place of this section too, where its name had none
abbrev pub HasPlaceToo : BTreeMap (List ℕ) ℕ → BTreeMap (List ℕ) ℕ → Said → ℕ → Type 0
HasPlaceToo old new saying place = (name : List ℕ) → get (slice_cmp nat_cmp) new name
    ≡ first_place (get (slice_cmp nat_cmp) old name) (if is_of name saying then Some place else None)

-- the map has the first bridge that names each port
abbrev pub HasOwners : BTreeMap (List ℕ) (List ℕ) → List Said → Type 0
HasOwners owners said = (port : List ℕ) → get (slice_cmp nat_cmp) owners port ≡ owner said port

-- the map has the ports of this section too, of this kind and bridge, where they had no bridge
abbrev pub HasOwnedToo : BTreeMap (List ℕ) (List ℕ) → BTreeMap (List ℕ) (List ℕ) → Said → Type 0
HasOwnedToo old new saying = (port : List ℕ) → get (slice_cmp nat_cmp) new port
    ≡ owner_or (get (slice_cmp nat_cmp) old port) (owner_in port saying)

abbrev pub HasOwnedByKind : BTreeMap (List ℕ) (List ℕ) → BTreeMap (List ℕ) (List ℕ) → StatedKind → Option (List ℕ)
    → Type 0
HasOwnedByKind old new kind bridge = (port : List ℕ) → get (slice_cmp nat_cmp) new port
    ≡ owner_or (get (slice_cmp nat_cmp) old port) (if names_port port kind then bridge else None)

-- the map has these ports too, of this bridge, where they had none
abbrev pub HasPortsToo : BTreeMap (List ℕ) (List ℕ) → BTreeMap (List ℕ) (List ℕ) → List ℕ → List (List ℕ) → Type 0
HasPortsToo old new bridge ports = (port : List ℕ) → get (slice_cmp nat_cmp) new port
    ≡ owner_or (get (slice_cmp nat_cmp) old port) (if has ports port then Some bridge else None)
