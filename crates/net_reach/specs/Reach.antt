-- What reaches what, as the program keeps it.
use Rattle.std.specs.Prelude.{ℕ, ◌≡◌, List, map, length, Bool, true, ◌||◌, Option, Contains, None, Some, if◌then◌else◌}
use Rattle.std.specs.Prelude.{slice_get}
use Rattle.std.specs.List.Sorted.{IsStrictlySortedBy}
use Rattle.std.specs.Ordering.{nat_cmp}
use Rattle.std.specs.Option.{option_and_then}
use Rattle.net_rows.specs.declared.rows.Conf.{Conf}
use Rattle.net_rows.specs.declared.rows.NameRow.{NameRow}
use Rattle.net_rows.specs.declared.rows.InterfaceRow.{InterfaceRow}
use Rattle.net_rules.specs.declared.inputs.Inputs.{Inputs}
use Rattle.net_rules.specs.Rows.{is_name, names_of}
use Rattle.net_rules.specs.RadioPorts.{device_of}
use Rattle.net_rules.specs.Standing.{stands}
use Rattle.net_rules.specs.Inputs.{facts_of, open_interface}
use Rattle.net_rules.specs.Above.{IsAbove}
use Rattle.net_view.specs.Places.{HasPlaces, is_place, place_of}
use Rattle.net_wants.specs.Grouped.{HasItems, is_route_named}
use Rattle.net_reach.specs.Groups.{HasGroups, HasMembers}
use Rattle.net_reach.specs.declared.reach.Reach.{Reach}

-- the name of a row stands right on a name
abbrev pub stands_on : Inputs → List ℕ → NameRow → Bool
stands_on inputs lower row = stands (facts_of inputs) lower row.name

-- the device of the latest answer to the open request of an interface
abbrev pub told_l3_device : Inputs → List ℕ → Option (List ℕ)
told_l3_device inputs interface =
    option_and_then (λ o. option_and_then (λ answer. answer.device) o.answer)
    (open_interface inputs.interfaces interface)

-- a name is the device of an interface
abbrev pub is_at_device : Inputs → List ℕ → InterfaceRow → Bool
is_at_device inputs name row = is_name (device_of (facts_of inputs) row) name

-- the first place of the name of an interface
abbrev pub interface_place : Conf → List ℕ → Option ℕ
interface_place conf name = place_of (map (λ row. row.name) conf.interfaces) name

-- the device of the latest answer for the row at a place, where it is the first of its name
abbrev pub l3_device_at : Inputs → ℕ → InterfaceRow → Option (List ℕ)
l3_device_at inputs place row =
    if is_place place (interface_place inputs.conf row.name) then told_l3_device inputs row.name else None

-- a name is the device of the latest answer for the row at a place
abbrev pub is_at_l3_device : Inputs → List ℕ → ℕ → InterfaceRow → Bool
is_at_l3_device inputs name place row = is_name (l3_device_at inputs place row) name

-- All is that of the inputs: the places of interfaces, radios, present devices and rows by name; the
-- names of the rows, and the rows that stand right on a name; the interfaces at a device and at an
-- answered layer-3 device; the routes of an interface; and there is room for each walk.
pub record IsReachOf (inputs : Inputs) (reach : Reach) : Type 0 where
  pub interfaces : HasPlaces reach.interfaces (map (λ row. row.name) inputs.conf.interfaces)
  pub radios : HasPlaces reach.radios (map (λ row. row.name) inputs.conf.radios)
  pub devices : HasPlaces reach.devices (map (λ e. e.0) inputs.devices)
  pub rows : HasPlaces reach.rows (names_of inputs.conf)
  pub names : reach.names.items ≡ names_of inputs.conf
  pub above : HasGroups reach.above (stands_on inputs) inputs.conf.names
  pub at_device : HasGroups reach.at_device (is_at_device inputs) inputs.conf.interfaces
  pub at_l3_device : HasMembers reach.at_l3_device (is_at_l3_device inputs) inputs.conf.interfaces
  pub routes : HasItems reach.routes (is_route_named inputs.conf) inputs.conf.routes
  pub row_room : reach.visit.rows.bound ≡ length inputs.conf.names
  pub place_room : reach.visit.touched.bound ≡ length inputs.conf.interfaces

-- A place is that of a touched interface: its device or answered layer-3 device is the base, or
-- stands on it, however far above. Of several rows of one name the first has the answers.
pub record IsTouched (inputs : Inputs) (base : List ℕ) (place : ℕ) : Type 0 where
  pub row : InterfaceRow
  pub found : slice_get inputs.conf.interfaces place ≡ Some row
  pub name : List ℕ
  pub at : (is_at_device inputs name row || is_at_l3_device inputs name place row) ≡ true
  pub above : IsAbove (facts_of inputs) base name

-- the touched places, rising
pub record AreTouched (inputs : Inputs) (base : List ℕ) (places : List ℕ) : Type 0 where
  pub rising : IsStrictlySortedBy nat_cmp places
  pub all : (place : ℕ) → IsTouched inputs base place → Contains places place
  pub only : (place : ℕ) → Contains places place → IsTouched inputs base place
