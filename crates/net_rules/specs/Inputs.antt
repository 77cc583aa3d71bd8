-- The facts of inputs, and inputs without any.
use Rattle.std.specs.Prelude.{ℕ, List, [], Bool, Option, bytes_eq}
use Rattle.std.specs.List.{find}
use Rattle.std.specs.Option.{option_map, option_and_then}
use Rattle.kern_model.specs.declared.object.Device.{Device}
use Rattle.net_rows.specs.declared.rows.Conf.{Conf}
use Rattle.net_rules.specs.declared.inputs.Inputs.{Inputs}
use Rattle.net_rules.specs.declared.inputs.OperatorState.{OperatorState}
use Rattle.net_rules.specs.declared.inputs.OpenInterface.{OpenInterface}
use Rattle.net_rules.specs.declared.inputs.OpenRadio.{OpenRadio}
use Rattle.net_rules.specs.Facts.{Facts}

-- the present device of a name
abbrev pub device_in : List (List ℕ × Device) → List ℕ → Option Device
device_in devices name = option_map (λ e. e.1) (find (λ e. bytes_eq e.0 name) devices)

-- the last operator state for an interface
abbrev pub operator_state_in : List OperatorState → List ℕ → Option Bool
operator_state_in operator_states name = option_map (λ c. c.up) (find (λ c. bytes_eq c.interface name) operator_states)

-- the open request of an interface
abbrev pub open_interface : List OpenInterface → List ℕ → Option OpenInterface
open_interface requests name = find (λ o. bytes_eq o.request.name name) requests

-- the open request of a radio
abbrev pub open_radio : List OpenRadio → List ℕ → Option OpenRadio
open_radio requests name = find (λ o. bytes_eq o.request.name name) requests

abbrev pub facts_of : Inputs → Facts
facts_of inputs = record {
  conf = inputs.conf;
  device = device_in inputs.devices;
  operator_state = operator_state_in inputs.operator_states;
  answer = λ name. option_and_then (λ o. o.answer) (open_interface inputs.interfaces name);
  ports = λ name. option_and_then (λ o. o.ports) (open_radio inputs.radios name);
}

-- no rows
abbrev pub no_conf : Conf
no_conf = record { interfaces = []; devices = []; routes = []; radios = []; names = []; vlans = [] }

-- no rows and no devices; the first request gets the number 1
abbrev pub no_inputs : Inputs
no_inputs =
    record { conf = no_conf; devices = []; operator_states = []; interfaces = []; radios = []; next = 1 }
