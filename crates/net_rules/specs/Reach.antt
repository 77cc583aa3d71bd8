-- Which names the rows of inputs reach.
use Rattle.std.specs.Prelude.{ℕ, List, [], ◌++◌, Bool, Option, unwrap_or, bytes_eq}
use Rattle.std.specs.List.{filter_map, flat_map, list_any}
use Rattle.std.specs.Option.{option_and_then}
use Rattle.kern_model.specs.declared.object.DevEvent.{DevEvent}
use Rattle.kern_model.specs.declared.object.DevEvent.TheVariants as device
use Rattle.net_rules.specs.declared.inputs.Inputs.{Inputs}
use Rattle.net_rules.specs.declared.inputs.OpenInterface.{OpenInterface}
use Rattle.net_rules.specs.declared.inputs.OpenRadio.{OpenRadio}
use Rattle.net_rules.specs.Rows.{names_of}

-- the name of the device to which something happens
abbrev pub name_of : DevEvent → List ℕ
name_of (device.Add name carrier mtu mac) = name
name_of (device.Remove name) = name
name_of (device.Carrier name on) = name

-- the ports of the latest answer of a radio
abbrev pub ports_of : OpenRadio → List (List ℕ)
ports_of o = filter_map (λ port. port) (unwrap_or o.ports [])

-- the device that the latest answer of an interface names
abbrev pub l3_device_of : OpenInterface → Option (List ℕ)
l3_device_of o = option_and_then (λ answer. answer.device) o.answer

-- The names that rows reach: those that have a row, the devices of interfaces, the ports that radios
-- answered, and the devices that handlers of interfaces answered.
abbrev pub reached_names : Inputs → List (List ℕ)
reached_names inputs =
    names_of inputs.conf
    ++ (filter_map (λ row. row.device) inputs.conf.interfaces
    ++ (flat_map ports_of inputs.radios ++ filter_map l3_device_of inputs.interfaces))

-- a row reaches the name
abbrev pub is_reached : Inputs → List ℕ → Bool
is_reached inputs name = list_any (λ other. bytes_eq other name) (reached_names inputs)
