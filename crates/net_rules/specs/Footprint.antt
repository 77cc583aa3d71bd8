-- The objects of what an interface stands on.
use Rattle.std.specs.Prelude.{ℕ, ◌≡◌, List, Contains, Bool, false, ◌&&◌, ◌||◌, Option, Some, None, bytes_eq}
use Rattle.std.specs.FinSet as set
use Rattle.kern_model.specs.declared.object.Object.{Object}
use Rattle.kern_model.specs.declared.object.Object.TheVariants as object
use Rattle.kern_model.specs.ObjectOrder.{Objects}
use Rattle.kern_model.specs.AdmissionTest.{is_among}
use Rattle.net_rows.specs.declared.rows.InterfaceRow.{InterfaceRow}
use Rattle.net_rules.specs.Facts.{Facts}
use Rattle.net_rules.specs.RadioPorts.{device_of}
use Rattle.net_rules.specs.Down.{LeadsDown, leads_down}
use Rattle.net_rules.specs.Interfaces.{l3_device_of}
use Rattle.net_rules.specs.Want.{given, want}

-- VLANs lead from a name, where there is one, down to the base
abbrev pub is_down_from : Facts → Option (List ℕ) → List ℕ → Bool
is_down_from facts None base = false
is_down_from facts (Some name) base = leads_down facts.conf.names name base

-- the name is the device of an interface or its layer-3 device, or the lower of VLANs among these
-- all the way down, broken or not
abbrev pub is_below : Facts → InterfaceRow → List ℕ → Bool
is_below facts row name =
    is_down_from facts (device_of facts row) name || is_down_from facts (l3_device_of facts row) name

-- links, MTUs, hardware addresses and names that are up, of these names; VLANs of bridges that are
-- set on these names themselves; and the addresses and routes of the interface
abbrev pub is_of : Facts → InterfaceRow → Object → Bool
is_of facts row (object.Link name kind) = is_below facts row name
is_of facts row (object.Mtu name mtu) = is_below facts row name
is_of facts row (object.Mac name mac) = is_below facts row name
is_of facts row (object.Master port bridge) = false
is_of facts row (object.Vlan bridge port id pvid untagged) =
    bytes_eq port bridge && is_below facts row bridge
is_of facts row (object.Up name) = is_below facts row name
is_of facts row (object.Address dev cidr) = is_among (given facts row) (object.Address dev cidr)
is_of facts row (object.Route r) = is_among (given facts row) (object.Route r)

unfoldable pub footprint : Facts → InterfaceRow → Objects
footprint facts row = set.retain (want facts) (is_of facts row)

-- What is of a footprint, told by the relation that `is_below` tests: VLANs lead down to the name
-- from the device of an interface, or from its layer-3 device.
pub data IsBelow (facts : Facts) (row : InterfaceRow) (name : List ℕ) : Type 0 where
  own : (device : List ℕ) → device_of facts row ≡ Some device
      → LeadsDown facts.conf.names name device → IsBelow facts row name
  l3_device : (device : List ℕ) → l3_device_of facts row ≡ Some device
      → LeadsDown facts.conf.names name device → IsBelow facts row name

abbrev pub IsOf : Facts → InterfaceRow → Object → Type 0
IsOf facts row (object.Link name kind) = IsBelow facts row name
IsOf facts row (object.Mtu name mtu) = IsBelow facts row name
IsOf facts row (object.Mac name mac) = IsBelow facts row name
IsOf facts row (object.Master port bridge) = ⊥
IsOf facts row (object.Vlan bridge port id pvid untagged) =
    (port ≡ bridge) × IsBelow facts row bridge
IsOf facts row (object.Up name) = IsBelow facts row name
IsOf facts row (object.Address dev cidr) = Contains (given facts row) (object.Address dev cidr)
IsOf facts row (object.Route r) = Contains (given facts row) (object.Route r)
