-- The members of an interface, as they are put into an object.
use Rattle.std.specs.Prelude.{codes, map}
use Rattle.serde_json.specs.Data.{boolean, Members, put}
use Rattle.net_rows.specs.declared.rows.InterfaceRow.{InterfaceRow}
use Rattle.net_rules.specs.declared.inputs.Inputs.{Inputs}
use Rattle.net_rules.specs.RadioPorts.{device_of}
use Rattle.net_rules.specs.Interfaces.{is_enabled, has_device, is_up}
use Rattle.net_rules.specs.Inputs.{facts_of, open_interface}
use Rattle.net_status.specs.declared.given.Family.TheVariants as family
use Rattle.net_status.specs.Values.{text, text_or_null, list}
use Rattle.net_status.specs.Faults.{fault_item}
use Rattle.net_status.specs.Given.{addresses_of, address_list, routes_of, route_item}
use Rattle.net_status.specs.Interfaces.{is_pending, l3_device_shown}

-- those in front of the addresses
abbrev pub with_state : Inputs → InterfaceRow → Members → Members
with_state inputs row members =
    let facts = facts_of inputs in
    put (codes "interface") (text row.name)
    (put (codes "errors") (list (map fault_item row.faults))
    (put (codes "device") (text_or_null (device_of facts row))
    (put (codes "available") (boolean (has_device facts row.proto (device_of facts row)))
    (put (codes "autostart") (boolean (is_enabled facts row)) members))))

-- the addresses and the layer-3 device
abbrev pub with_addresses : Inputs → InterfaceRow → Members → Members
with_addresses inputs row members =
    let facts = facts_of inputs in
    put (codes "l3_device") (text_or_null (l3_device_shown facts row))
    (put (codes "ipv6-address") (address_list family.V6 (addresses_of facts row))
    (put (codes "ipv4-address") (address_list family.V4 (addresses_of facts row)) members))

-- those behind them
abbrev pub with_protocol : Inputs → InterfaceRow → Members → Members
with_protocol inputs row members =
    let facts = facts_of inputs in
    put (codes "up") (boolean (is_up facts row))
    (put (codes "route") (list (map route_item (routes_of facts row)))
    (put (codes "proto") (text row.proto)
    (put (codes "pending")
    (boolean (is_pending (open_interface inputs.interfaces row.name))) members)))
