-- The tests by which lists of devices and objects are judged: whether a kernel of them admits a
-- call, and whether an event may happen to it. That they judge right is what `admits` and
-- `may_happen` ensure.
use Rattle.std.specs.Prelude.{ℕ, List, Bool, true, false, ◌&&◌, ◌||◌, not, bytes_eq, nat_eq, nat_le}
use Rattle.std.specs.List.{list_any}
use Rattle.std.specs.Ordering.{eq_by_cmp}
use Rattle.kern_model.specs.declared.object.Device.{Device}
use Rattle.kern_model.specs.declared.object.LinkKind.{LinkKind}
use Rattle.kern_model.specs.declared.object.LinkKind.TheVariants.{Bridge, Vlan}
use Rattle.kern_model.specs.declared.object.Object.{Object}
use Rattle.kern_model.specs.declared.object.Object.TheVariants as object
use Rattle.kern_model.specs.declared.object.Call.{Call}
use Rattle.kern_model.specs.declared.object.Call.TheVariants.{Put, Take}
use Rattle.kern_model.specs.declared.object.DevEvent.{DevEvent}
use Rattle.kern_model.specs.declared.object.DevEvent.TheVariants as event
use Rattle.kern_model.specs.declared.vlan_name.TheConstants.{LEAST_VLAN_ID, MOST_VLAN_ID}
use Rattle.kern_model.specs.ObjectOrder.{object_cmp}
use Rattle.kern_model.specs.Standing.{places_of}
use Rattle.kern_model.specs.Kernel.{map_of, is_present, own_mtu, own_mac, name_of}

-- a link of that name
abbrev pub is_link_of : List ℕ → Object → Bool
is_link_of name (object.Link other kind) = bytes_eq other name
is_link_of name _ = false

-- a bridge of that name
abbrev pub is_bridge_of : List ℕ → Object → Bool
is_bridge_of name (object.Link other (Bridge mac filtering)) = bytes_eq other name
is_bridge_of name _ = false

-- a bridge of that name that filters VLANs
abbrev pub is_filtering_of : List ℕ → Object → Bool
is_filtering_of name (object.Link other (Bridge mac filtering)) = bytes_eq other name && filtering
is_filtering_of name _ = false

-- a VLAN link of that id over that name
abbrev pub is_vlan_with : List ℕ → ℕ → Object → Bool
is_vlan_with lower id (object.Link name (Vlan other other_id mac)) =
    bytes_eq other lower && nat_eq other_id id
is_vlan_with lower id _ = false

-- a VLAN over that name
abbrev pub is_vlan_over : List ℕ → Object → Bool
is_vlan_over lower (object.Link name (Vlan other id mac)) = bytes_eq other lower
is_vlan_over lower _ = false

-- a master of that port
abbrev pub is_master_of : List ℕ → Object → Bool
is_master_of port (object.Master other bridge) = bytes_eq other port
is_master_of port _ = false

-- a VLAN of that id on that port
abbrev pub is_vlan_on : List ℕ → ℕ → Object → Bool
is_vlan_on port id (object.Vlan bridge other other_id pvid untagged) =
    bytes_eq other port && nat_eq other_id id
is_vlan_on port id _ = false

-- a PVID of that port
abbrev pub is_pvid_on : List ℕ → Object → Bool
is_pvid_on port (object.Vlan bridge other id pvid untagged) = bytes_eq other port && pvid
is_pvid_on port _ = false

-- a VLAN of that bridge on that port
abbrev pub is_vlan_of : List ℕ → List ℕ → Object → Bool
is_vlan_of bridge port (object.Vlan other_bridge other id pvid untagged) =
    bytes_eq other_bridge bridge && bytes_eq other port
is_vlan_of bridge port _ = false

-- an object at that name
abbrev pub is_at : List ℕ → Object → Bool
is_at name o = list_any (λ place. bytes_eq place name) (places_of o)

-- the object is among them
abbrev pub is_among : List Object → Object → Bool
is_among objects o = list_any (eq_by_cmp object_cmp o) objects

-- a VLAN of that name whose lower name is not up
abbrev pub lacks_lower : List Object → List ℕ → Object → Bool
lacks_lower objects name (object.Link other (Vlan lower id mac)) =
    bytes_eq other name && not (is_among objects (object.Up lower))
lacks_lower objects name _ = false

-- an address or a route on that name, or a VLAN over it that is up
abbrev pub needs_up : List Object → List ℕ → Object → Bool
needs_up objects name (object.Address dev cidr) = bytes_eq dev name
needs_up objects name (object.Route r) = bytes_eq r.dev name
needs_up objects name (object.Link vlan (Vlan lower id mac)) =
    bytes_eq lower name && is_among objects (object.Up vlan)
needs_up objects name _ = false

abbrev pub exists : List (List ℕ × Device) → List Object → List ℕ → Bool
exists devices objects name = is_present (map_of devices) name || list_any (is_link_of name) objects

abbrev pub may_be_made : List (List ℕ × Device) → List Object → LinkKind → Bool
may_be_made devices objects (Bridge mac filtering) = true
may_be_made devices objects (Vlan lower id mac) =
    exists devices objects lower
    && (nat_le LEAST_VLAN_ID id
    && (nat_le id MOST_VLAN_ID && not (list_any (is_vlan_with lower id) objects)))

abbrev pub master_may_be_set : List (List ℕ × Device) → List Object → List ℕ → List ℕ → Bool
master_may_be_set devices objects port bridge =
    exists devices objects port
    && (not (list_any (is_bridge_of port) objects)
    && (list_any (is_bridge_of bridge) objects && not (list_any (is_master_of port) objects)))

abbrev pub port_vlan_may_be_set : List Object → List ℕ → List ℕ → ℕ → Bool → Bool
port_vlan_may_be_set objects bridge port id pvid =
    list_any (is_filtering_of bridge) objects
    && ((bytes_eq port bridge || is_among objects (object.Master port bridge))
    && (not (list_any (is_vlan_on port id) objects)
    && not (pvid && list_any (is_pvid_on port) objects)))

abbrev pub may_be_put : List (List ℕ × Device) → List Object → Object → Bool
may_be_put devices objects (object.Link name kind) =
    not (exists devices objects name) && may_be_made devices objects kind
may_be_put devices objects (object.Mtu name mtu) = exists devices objects name
may_be_put devices objects (object.Mac name mac) = is_present (map_of devices) name
may_be_put devices objects (object.Master port bridge) =
    master_may_be_set devices objects port bridge
may_be_put devices objects (object.Vlan bridge port id pvid untagged) =
    port_vlan_may_be_set objects bridge port id pvid
may_be_put devices objects (object.Up name) =
    exists devices objects name && not (list_any (lacks_lower objects name) objects)
may_be_put devices objects (object.Address dev cidr) = is_among objects (object.Up dev)
may_be_put devices objects (object.Route r) = is_among objects (object.Up r.dev)

abbrev pub may_be_taken : List Object → Object → Bool
may_be_taken objects (object.Link name kind) = not (list_any (is_at name) objects)
may_be_taken objects (object.Master port bridge) = not (list_any (is_vlan_of bridge port) objects)
may_be_taken objects (object.Up name) = not (list_any (needs_up objects name) objects)
may_be_taken objects _ = true

abbrev pub call_passes : List (List ℕ × Device) → List Object → Call → Bool
call_passes devices objects (Put o) = not (is_among objects o) && may_be_put devices objects o
call_passes devices objects (Take o mtu mac) =
    is_among objects o
    && (may_be_taken objects o
    && (nat_eq mtu (own_mtu (map_of devices) (name_of o))
    && bytes_eq mac.0 (own_mac (map_of devices) (name_of o)).0))

abbrev pub event_passes : List (List ℕ × Device) → List Object → DevEvent → Bool
event_passes devices objects (event.Add name carrier mtu mac) = not (exists devices objects name)
event_passes devices objects (event.Remove name) = is_present (map_of devices) name
event_passes devices objects (event.Carrier name on) = is_present (map_of devices) name
