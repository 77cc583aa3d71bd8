-- What an event makes of the inputs, in four steps: one field changes; radios lose their requests;
-- interfaces lose theirs; and new requests get numbers.
use Rattle.std.specs.Prelude.{ℕ, ◌+◌, List, [], ◌∷◌, ◌++◌, map, filter, length, Bool, false, not, ◌&&◌, Option, Some}
use Rattle.std.specs.Prelude.{None, is_some, is_none, if◌then◌else◌, bytes_eq, ◌==◌}
use Rattle.std.specs.List.{filter_map}
use Rattle.std.specs.Option.{option_and_then}
use Rattle.kern_model.specs.declared.object.Device.{Device}
use Rattle.kern_model.specs.declared.object.DevEvent.{DevEvent}
use Rattle.kern_model.specs.declared.object.DevEvent.TheVariants as device
use Rattle.kern_model.specs.Kernel.{with_carrier}
use Rattle.net_rows.specs.declared.rows.Conf.{Conf}
use Rattle.net_rules.specs.declared.answer.Answer.{Answer}
use Rattle.net_rules.specs.declared.request.InterfaceRequest.{InterfaceRequest}
use Rattle.net_rules.specs.declared.request.RadioRequest.{RadioRequest}
use Rattle.net_rules.specs.declared.inputs.Inputs.{Inputs}
use Rattle.net_rules.specs.declared.inputs.OperatorState.{OperatorState}
use Rattle.net_rules.specs.declared.inputs.OpenInterface.{OpenInterface}
use Rattle.net_rules.specs.declared.inputs.OpenRadio.{OpenRadio}
use Rattle.net_rules.specs.declared.event.Event.{Event}
use Rattle.net_rules.specs.declared.event.Event.TheVariants as event
use Rattle.net_rules.specs.Facts.{Facts}
use Rattle.net_rules.specs.Rows.{interface_named, radio_named, interfaces_of, radios_of}
use Rattle.net_rules.specs.Need.{interface_need, radio_need, same_interface_request, same_radio_request}
use Rattle.net_rules.specs.Inputs.{facts_of, open_interface, open_radio}

-- the devices without that of a name
abbrev pub without_device : List ℕ → List (List ℕ × Device) → List (List ℕ × Device)
without_device name devices = filter (λ e. not (bytes_eq e.0 name)) devices

abbrev pub carrier_set : List ℕ → Bool → List ℕ × Device → List ℕ × Device
carrier_set name on e = if bytes_eq e.0 name then (e.0, with_carrier on e.1) else e

-- the present devices after what happens to one
abbrev pub devices_after : List (List ℕ × Device) → DevEvent → List (List ℕ × Device)
devices_after devices (device.Add name carrier mtu mac) =
    without_device name devices ++ (name, record { carrier = carrier; mtu = mtu; mac = mac }) ∷ []
devices_after devices (device.Remove name) = without_device name devices
devices_after devices (device.Carrier name on) = map (carrier_set name on) devices

-- operator states for names that are gone are forgotten
abbrev pub kept_operator_states : Conf → List OperatorState → List OperatorState
kept_operator_states conf operator_states = filter (λ c. is_some (interface_named conf c.interface)) operator_states

-- an operator state takes the place of an earlier one for the interface
abbrev pub operator_states_after : List OperatorState → List ℕ → Bool → List OperatorState
operator_states_after operator_states interface up =
    filter (λ c. not (bytes_eq c.interface interface)) operator_states
    ++ record { interface = interface; up = up } ∷ []

-- an answer takes the place of an earlier one to the request that it names; one to another number
-- changes nothing
abbrev pub answered_interface : List ℕ → ℕ → Answer → OpenInterface → OpenInterface
answered_interface interface number answer o =
    if bytes_eq o.request.name interface && (o.number == number)
    then record o { answer = Some answer } else o

abbrev pub answered_radio : List ℕ → ℕ → List (Option (List ℕ)) → OpenRadio → OpenRadio
answered_radio radio number ports o =
    if bytes_eq o.request.name radio && (o.number == number)
    then record o { ports = Some ports } else o

-- the first step: the one field that the event names changes
abbrev pub changed : Inputs → Event → Inputs
changed inputs (event.Load conf) =
    record inputs { conf = conf; operator_states = kept_operator_states conf inputs.operator_states }
changed inputs (event.Device what) = record inputs { devices = devices_after inputs.devices what }
changed inputs (event.Operator interface up) =
    record inputs { operator_states = operator_states_after inputs.operator_states interface up }
changed inputs (event.Answer interface number answer) = record inputs {
  interfaces = map (answered_interface interface number answer) inputs.interfaces;
}
changed inputs (event.Radio radio number ports) =
    record inputs { radios = map (answered_radio radio number ports) inputs.radios }

-- the needs of the interface and of the radio of a name
abbrev pub interface_need_of : Facts → List ℕ → Option InterfaceRequest
interface_need_of facts name =
    option_and_then (interface_need facts) (interface_named facts.conf name)

abbrev pub radio_need_of : Conf → List ℕ → Option RadioRequest
radio_need_of conf name = option_and_then radio_need (radio_named conf name)

-- an open request is still the need of its row
abbrev pub is_same_need : {A : Type 0} → (A → A → Bool) → Option A → A → Bool
is_same_need same None request = false
is_same_need same (Some need) request = same need request

-- the second step: each radio whose need changed loses its request with its answer
abbrev pub radios_dropped : Inputs → Inputs
radios_dropped inputs = record inputs {
  radios = filter
      (λ o. is_same_need same_radio_request (radio_need_of inputs.conf o.request.name) o.request) inputs.radios;
}

-- the third step: each interface whose need changed, with the radio answers that are left, loses
-- its request with its answer
abbrev pub interfaces_dropped : Inputs → Inputs
interfaces_dropped inputs = record inputs {
  interfaces = filter
      (λ o. is_same_need same_interface_request (interface_need_of (facts_of inputs) o.request.name) o.request)
      inputs.interfaces;
}

-- the requests of rows that have none, in file order
abbrev pub new_interface_requests : Inputs → List InterfaceRequest
new_interface_requests inputs =
    filter (λ request. is_none (open_interface inputs.interfaces request.name))
    (filter_map (interface_need (facts_of inputs)) (interfaces_of inputs.conf))

abbrev pub new_radio_requests : Inputs → List RadioRequest
new_radio_requests inputs =
    filter (λ request. is_none (open_radio inputs.radios request.name))
    (filter_map radio_need (radios_of inputs.conf))

-- asks with rising numbers, and no answers
abbrev pub opened_interfaces : ℕ → List InterfaceRequest → List OpenInterface
opened_interfaces next [] = []
opened_interfaces next (request ∷ requests) =
    record { number = next; request = request; answer = None } ∷ opened_interfaces (next + 1) requests

abbrev pub opened_radios : ℕ → List RadioRequest → List OpenRadio
opened_radios next [] = []
opened_radios next (request ∷ requests) =
    record { number = next; request = request; ports = None } ∷ opened_radios (next + 1) requests

-- the fourth step: each row with a need and no request gets the next number, interfaces first
abbrev pub requests_opened : Inputs → Inputs
requests_opened inputs =
    let interfaces = new_interface_requests inputs in
    let radios = new_radio_requests inputs in
    let middle = inputs.next + length interfaces in
    record inputs {
      interfaces = inputs.interfaces ++ opened_interfaces inputs.next interfaces;
      radios = inputs.radios ++ opened_radios middle radios;
      next = middle + length radios;
    }

-- the requests follow the needs: the last three steps
abbrev pub asked : Inputs → Inputs
asked inputs = requests_opened (interfaces_dropped (radios_dropped inputs))

-- the inputs after an event
unfoldable pub after : Inputs → Event → Inputs
after inputs event = asked (changed inputs event)
