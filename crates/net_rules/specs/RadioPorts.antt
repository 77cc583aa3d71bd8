-- The ports of radios, which handlers tell: the bridges that they join, and the interfaces of which
-- they are the device.
use Rattle.std.specs.Prelude.{ℕ, List, [], map, filter, not, ◌&&◌, Option, Some, None, if◌then◌else◌, unwrap_or}
use Rattle.std.specs.Prelude.{bytes_eq}
use Rattle.std.specs.List.{filter_map, flat_map, zip, find}
use Rattle.std.specs.Option.{option_map, option_and_then}
use Rattle.net_rows.specs.declared.rows.InterfaceRow.{InterfaceRow}
use Rattle.net_rows.specs.declared.rows.RadioRow.{RadioRow}
use Rattle.net_rules.specs.Facts.{Facts}
use Rattle.net_rules.specs.Firsts.{firsts}
use Rattle.net_rules.specs.Rows.{is_plain, is_bridge, is_named_port, interface_named, radios_of, enabled_rows}

-- a port of a radio, and the interface that its row names
pub record AnsweredPort : Type 0 where
  pub interface : List ℕ
  pub port : List ℕ

-- only plain names can be ports of radios
abbrev pub answered_port : Facts → Option (List ℕ) → Option (List ℕ) → Option AnsweredPort
answered_port facts None port = None
answered_port facts (Some interface) None = None
answered_port facts (Some interface) (Some port) =
    if is_plain facts.conf port then Some (record { interface = interface; port = port }) else None

-- the latest answer to the request of a radio has a port or none for each of its enabled rows
abbrev pub ports_of_radio : Facts → RadioRow → List AnsweredPort
ports_of_radio facts radio =
    filter_map (λ pair. answered_port facts pair.0.network pair.1)
    (zip (enabled_rows radio) (unwrap_or (facts.ports radio.name) []))

-- radio by radio in file order
abbrev pub answered_ports : Facts → List AnsweredPort
answered_ports facts = flat_map (ports_of_radio facts) (radios_of facts.conf)

-- the device of an interface: that of its row, else the first port of a radio whose row names it
abbrev pub device_or_port : Facts → List ℕ → Option (List ℕ) → Option (List ℕ)
device_or_port facts name (Some device) = Some device
device_or_port facts name None =
    option_map (λ answered. answered.port)
    (find (λ answered. bytes_eq answered.interface name) (answered_ports facts))

abbrev pub device_of : Facts → InterfaceRow → Option (List ℕ)
device_of facts row = device_or_port facts row.name row.device

-- a port of a radio, and the bridge that it joins
pub record RadioPort : Type 0 where
  pub bridge : List ℕ
  pub port : List ℕ

-- a port joins the bridge that is the device of its interface, where no bridge of the rows owns it
abbrev pub joined : Facts → AnsweredPort → Option RadioPort
joined facts answered =
    option_and_then (λ row. option_and_then (λ device.
    if is_bridge facts.conf device && not (is_named_port facts.conf answered.port)
    then Some (record { bridge = device; port = answered.port }) else None)
    row.device) (interface_named facts.conf answered.interface)

-- a port belongs to the first bridge that it joins
abbrev pub radio_ports : Facts → List RadioPort
radio_ports facts = firsts (λ joins. joins.port) (filter_map (joined facts) (answered_ports facts))

abbrev pub radio_ports_of : Facts → List ℕ → List (List ℕ)
radio_ports_of facts bridge =
    map (λ joins. joins.port) (filter (λ joins. bytes_eq joins.bridge bridge) (radio_ports facts))
