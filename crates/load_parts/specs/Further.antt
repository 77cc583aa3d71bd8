-- Names for a graph of devices beside those of the rows.
use Rattle.std.specs.Prelude.{ℕ, List, ◌++◌, Bool, ◌||◌, Option, Some, None, is_some, if◌then◌else◌}
use Rattle.std.specs.List.{filter_map}
use Rattle.kern_model.specs.declared.object.Device.{Device}
use Rattle.net_rows.specs.declared.rows.Conf.{Conf}
use Rattle.net_rules.specs.declared.inputs.Inputs.{Inputs}
use Rattle.net_rules.specs.RadioPorts.{RadioPort, radio_ports}
use Rattle.net_rules.specs.Inputs.{device_in, facts_of}
use Rattle.net_view.specs.Places.{named}

-- a name has a row
abbrev pub has_row : Conf → List ℕ → Bool
has_row conf name = is_some (named (λ row. row.name) conf.names name)

-- the name of a present device that has no row
abbrev pub further_device : Conf → List ℕ × Device → Option (List ℕ)
further_device conf e = if has_row conf e.0 then None else Some e.0

-- a port of a radio that has no row and is no present device
abbrev pub further_port : Inputs → RadioPort → Option (List ℕ)
further_port inputs j =
    if has_row inputs.conf j.port || is_some (device_in inputs.devices j.port)
    then None else Some j.port

-- those of the present devices, then those of the ports
abbrev pub further_names : Inputs → List (List ℕ)
further_names inputs =
    filter_map (further_device inputs.conf) inputs.devices
    ++ filter_map (further_port inputs) (radio_ports (facts_of inputs))
