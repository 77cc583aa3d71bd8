-- Which events are refused for what the inputs are, and what the others come to.
use Rattle.std.specs.Prelude.{ℕ, List, length, Bool, true, false, not, ◌||◌, Option, Some, None, is_some, is_none}
use Rattle.std.specs.Prelude.{nat_lt, nat_le, ◌==◌}
use Rattle.std.specs.FinSet as set
use Rattle.std.specs.List.{list_any}
use Rattle.std.specs.Option.{option_map_or}
use Rattle.kern_model.specs.declared.object.DevEvent.{DevEvent}
use Rattle.kern_model.specs.declared.object.DevEvent.TheVariants as device
use Rattle.kern_model.specs.ObjectOrder.{Objects}
use Rattle.kern_model.specs.AdmissionTest.{is_link_of}
use Rattle.net_rules.specs.declared.answer.Answer.{Answer}
use Rattle.net_rules.specs.declared.inputs.Inputs.{Inputs}
use Rattle.net_rules.specs.declared.inputs.OpenInterface.{OpenInterface}
use Rattle.net_rules.specs.declared.inputs.OpenRadio.{OpenRadio}
use Rattle.net_rules.specs.declared.refusal.Refusal.{Refusal}
use Rattle.net_rules.specs.declared.refusal.Refusal.TheVariants as refused
use Rattle.net_rules.specs.declared.refusal.TheConstants.{MOST_DEVICES, MOST_IN_ANSWER}
use Rattle.net_rules.specs.declared.event.Event.{Event}
use Rattle.net_rules.specs.declared.event.Event.TheVariants as event
use Rattle.net_rules.specs.Rows.{is_plain, interface_named, radio_named}
use Rattle.net_rules.specs.Inputs.{device_in, open_interface, open_radio}
use Rattle.net_rules.specs.Moment.{Moment, moment_after}

-- the first refusal of two that holds
abbrev pub or_else : Option Refusal → Option Refusal → Option Refusal
or_else None other = other
or_else (Some refusal) other = Some refusal

abbrev pub refused_if : Bool → Refusal → Option Refusal
refused_if false refusal = None
refused_if true refusal = Some refusal

-- a link of that name is held
abbrev pub is_held_link : Objects → List ℕ → Bool
is_held_link held name = list_any (is_link_of name) (set.items held)

-- the name is that of a present device, of a bridge or a VLAN of the rows, one of the form X.N
-- among them, or of a held link
abbrev pub is_known : Moment → List ℕ → Bool
is_known moment name =
    is_some (device_in moment.inputs.devices name)
    || (not (is_plain moment.inputs.conf name) || is_held_link moment.held name)

abbrev pub device_refusal : Moment → DevEvent → Option Refusal
device_refusal moment (device.Add name carrier mtu mac) =
    or_else (refused_if (is_known moment name) refused.Known)
    (refused_if (nat_le MOST_DEVICES (length moment.inputs.devices)) (refused.Limit MOST_DEVICES))
device_refusal moment (device.Remove name) =
    refused_if (is_none (device_in moment.inputs.devices name)) refused.NoDevice
device_refusal moment (device.Carrier name on) =
    refused_if (is_none (device_in moment.inputs.devices name)) refused.NoDevice

-- a number is stale that is not that of the open request; without an open request every number is
abbrev pub stale_number : ℕ → Option ℕ → Option Refusal
stale_number given None = Some (refused.Stale given 0)
stale_number given (Some current) =
    refused_if (not (given == current)) (refused.Stale given current)

abbrev pub number_of_interface : Option OpenInterface → Option ℕ
number_of_interface None = None
number_of_interface (Some o) = Some o.number

abbrev pub number_of_radio : Option OpenRadio → Option ℕ
number_of_radio None = None
number_of_radio (Some o) = Some o.number

abbrev pub is_too_long : Answer → Bool
is_too_long answer =
    nat_lt MOST_IN_ANSWER (length answer.addresses) || nat_lt MOST_IN_ANSWER (length answer.routes)

-- an answer of a radio has a port, or none, for each row of its request
abbrev pub wrong_ports : ℕ → Option OpenRadio → Option Refusal
wrong_ports given None = None
wrong_ports given (Some o) =
    refused_if (not (given == length o.request.rows)) (refused.WrongPorts (length o.request.rows))

-- an answer to the request of an interface is refused for its length, its name, or its number
abbrev pub answer_refusal : Inputs → List ℕ → ℕ → Answer → Option Refusal
answer_refusal inputs interface number answer =
    or_else (refused_if (is_too_long answer) (refused.Limit MOST_IN_ANSWER))
    (or_else (refused_if (is_none (interface_named inputs.conf interface)) refused.NoInterface)
    (stale_number number (number_of_interface (open_interface inputs.interfaces interface))))

-- an answer to the request of a radio is refused for its name, its number, or the number of its ports
abbrev pub radio_refusal : Inputs → List ℕ → ℕ → List (Option (List ℕ)) → Option Refusal
radio_refusal inputs radio number ports =
    or_else (refused_if (is_none (radio_named inputs.conf radio)) refused.NoRadio)
    (or_else (stale_number number (number_of_radio (open_radio inputs.radios radio)))
    (wrong_ports (length ports) (open_radio inputs.radios radio)))

-- Why an event is refused: what is too long, then what is not there, then a number that is stale,
-- then a wrong number of ports.
abbrev pub refusal : Moment → Event → Option Refusal
refusal moment (event.Load conf) = None
refusal moment (event.Device what) = device_refusal moment what
refusal moment (event.Operator interface up) =
    refused_if (is_none (interface_named moment.inputs.conf interface)) refused.NoInterface
refusal moment (event.Answer interface number answer) =
    answer_refusal moment.inputs interface number answer
refusal moment (event.Radio radio number ports) = radio_refusal moment.inputs radio number ports

-- what a moment comes to: a refused event changes nothing
abbrev pub moved : Moment → Event → Moment
moved moment event =
    option_map_or (λ refusal. moment) (refusal moment event) (moment_after moment event)
