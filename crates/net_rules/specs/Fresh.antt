-- Which inputs events lead to, and what a fresh start on them is.
use Rattle.std.specs.Prelude.{ℕ, ◌≡◌, List, Option, Some, None}
use Rattle.std.specs.List.{fold}
use Rattle.std.specs.Option.{option_map}
use Rattle.kern_model.specs.declared.object.Device.{Device}
use Rattle.kern_model.specs.declared.object.DevEvent.TheVariants as device
use Rattle.net_rules.specs.declared.answer.Answer.{Answer}
use Rattle.net_rules.specs.declared.inputs.Inputs.{Inputs}
use Rattle.net_rules.specs.declared.inputs.OperatorState.{OperatorState}
use Rattle.net_rules.specs.declared.inputs.OpenInterface.{OpenInterface}
use Rattle.net_rules.specs.declared.inputs.OpenRadio.{OpenRadio}
use Rattle.net_rules.specs.declared.event.Event.{Event}
use Rattle.net_rules.specs.declared.event.Event.TheVariants as event
use Rattle.net_rules.specs.Inputs.{facts_of, open_interface, open_radio, no_inputs}
use Rattle.net_rules.specs.After.{after, interface_need_of, radio_need_of}

-- from nothing, by any events one after the other
pub data IsReached : Inputs → Type 0 where
  nothing : IsReached no_inputs
  behind : (inputs : Inputs) (event : Event) → IsReached inputs → IsReached (after inputs event)

-- each interface and each radio has an open request exactly where it has a need, and that request is its
-- need
pub record AreAsked (inputs : Inputs) : Type 0 where
  pub interfaces : (name : List ℕ)
      → option_map (λ o. o.request) (open_interface inputs.interfaces name)
      ≡ interface_need_of (facts_of inputs) name
  pub radios : (name : List ℕ)
      → option_map (λ o. o.request) (open_radio inputs.radios name) ≡ radio_need_of inputs.conf name

-- a present device comes, with the carrier that it has
abbrev pub device_given : Inputs → List ℕ × Device → Inputs
device_given inputs e = after inputs (event.Device (device.Add e.0 e.1.carrier e.1.mtu e.1.mac))

abbrev pub operator_state_given : Inputs → OperatorState → Inputs
operator_state_given inputs c = after inputs (event.Operator c.interface c.up)

-- the latest answer to a request of a radio, to the request that it now has open
abbrev pub ports_given : Inputs → List ℕ → Option OpenRadio → Option (List (Option (List ℕ)))
    → Inputs
ports_given inputs radio None ports = inputs
ports_given inputs radio (Some now) None = inputs
ports_given inputs radio (Some now) (Some ports) = after inputs (event.Radio radio now.number ports)

abbrev pub radio_given : Inputs → OpenRadio → Inputs
radio_given inputs o = ports_given inputs o.request.name (open_radio inputs.radios o.request.name) o.ports

-- the latest answer to a request of an interface, to the request that it now has open
abbrev pub answer_given : Inputs → List ℕ → Option OpenInterface → Option Answer → Inputs
answer_given inputs interface None answer = inputs
answer_given inputs interface (Some now) None = inputs
answer_given inputs interface (Some now) (Some answer) =
    after inputs (event.Answer interface now.number answer)

abbrev pub interface_given : Inputs → OpenInterface → Inputs
interface_given inputs o =
    answer_given inputs o.request.name (open_interface inputs.interfaces o.request.name) o.answer

-- A fresh start: from nothing each present device comes, the rows are loaded, each last operator state is
-- given, then the latest answers of radios, and then those of interfaces.
abbrev pub fresh_with_devices : Inputs → Inputs
fresh_with_devices inputs = fold device_given no_inputs inputs.devices

abbrev pub fresh_loaded : Inputs → Inputs
fresh_loaded inputs = after (fresh_with_devices inputs) (event.Load inputs.conf)

abbrev pub fresh_commanded : Inputs → Inputs
fresh_commanded inputs = fold operator_state_given (fresh_loaded inputs) inputs.operator_states

abbrev pub fresh_with_radios : Inputs → Inputs
fresh_with_radios inputs = fold radio_given (fresh_commanded inputs) inputs.radios

abbrev pub fresh_start : Inputs → Inputs
fresh_start inputs = fold interface_given (fresh_with_radios inputs) inputs.interfaces
