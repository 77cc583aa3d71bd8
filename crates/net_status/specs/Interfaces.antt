-- What is shown of interfaces.
use Rattle.std.specs.Prelude.{ℕ, List, map, codes, Bool, false, not, Option, Some, None, if◌then◌else◌}
use Rattle.std.specs.Option.{option_map}
use Rattle.serde_json.specs.Data.{Data, boolean, object, member, no_members}
use Rattle.net_rows.specs.declared.rows.InterfaceRow.{InterfaceRow}
use Rattle.net_rules.specs.declared.inputs.Inputs.{Inputs}
use Rattle.net_rules.specs.declared.inputs.OpenInterface.{OpenInterface}
use Rattle.net_rules.specs.Facts.{Facts}
use Rattle.net_rules.specs.Rows.{interface_named, interfaces_of}
use Rattle.net_rules.specs.RadioPorts.{device_of}
use Rattle.net_rules.specs.Interfaces.{is_enabled, has_device, is_answered_up, is_up, l3_device_of}
use Rattle.net_rules.specs.Inputs.{facts_of, open_interface}
use Rattle.net_status.specs.declared.given.Family.TheVariants as family
use Rattle.net_status.specs.Values.{text, text_or_null, list}
use Rattle.net_status.specs.Faults.{fault_item}
use Rattle.net_status.specs.Given.{addresses_of, address_list, routes_of, route_item}

-- a request is open, and has no answer that is up
abbrev pub is_pending : Option OpenInterface → Bool
is_pending None = false
is_pending (Some o) = not (is_answered_up o.answer)

-- the layer-3 device, where the interface is up
abbrev pub l3_device_shown : Facts → InterfaceRow → Option (List ℕ)
l3_device_shown facts row = if is_up facts row then l3_device_of facts row else None

-- `autostart` is whether it is enabled, and `available` what it asks beside that to be claimed
abbrev pub interface_shown : Inputs → InterfaceRow → Data
interface_shown inputs row =
    let facts = facts_of inputs in
    object (member (codes "autostart") (boolean (is_enabled facts row))
    (member (codes "available") (boolean (has_device facts row.proto (device_of facts row)))
    (member (codes "device") (text_or_null (device_of facts row))
    (member (codes "errors") (list (map fault_item row.faults))
    (member (codes "interface") (text row.name)
    (member (codes "ipv4-address") (address_list family.V4 (addresses_of facts row))
    (member (codes "ipv6-address") (address_list family.V6 (addresses_of facts row))
    (member (codes "l3_device") (text_or_null (l3_device_shown facts row))
    (member (codes "pending") (boolean (is_pending (open_interface inputs.interfaces row.name)))
    (member (codes "proto") (text row.proto)
    (member (codes "route") (list (map route_item (routes_of facts row)))
    (member (codes "up") (boolean (is_up facts row)) no_members))))))))))))

-- the interface of a name
abbrev pub interface_status : Inputs → List ℕ → Option Data
interface_status inputs name =
    option_map (interface_shown inputs) (interface_named inputs.conf name)

-- all interfaces in file order, of one name the first
abbrev pub dump : Inputs → Data
dump inputs = object (member (codes "interface")
    (list (map (interface_shown inputs) (interfaces_of inputs.conf))) no_members)
