-- What a step makes of inputs.
use Rattle.std.specs.Prelude.{ℕ, ◌<◌, ◌+◌, ◌==◌, List, [], ◌∷◌, ◌++◌, filter, not, length, Bool, Option, bytes_eq, ⊤}
use Rattle.std.specs.List.{find, position}
use Rattle.kern_model.specs.declared.object.DevEvent.{DevEvent}
use Rattle.kern_model.specs.declared.object.DevEvent.TheVariants as device
use Rattle.net_rules.specs.declared.request.InterfaceRequest.{InterfaceRequest}
use Rattle.net_rules.specs.declared.inputs.Inputs.{Inputs}
use Rattle.net_rules.specs.declared.inputs.OpenInterface.{OpenInterface}
use Rattle.net_rules.specs.After.{opened_interfaces}
use Rattle.known_inputs.specs.Known.{Known}

-- the name of the device to which something happens
abbrev pub name_of : DevEvent → List ℕ
name_of (device.Add name carrier mtu mac) = name
name_of (device.Remove name) = name
name_of (device.Carrier name on) = name

-- the place of a name
abbrev pub place_of : List (List ℕ) → List ℕ → Option ℕ
place_of names name = position (λ other. bytes_eq other name) names

-- of so many devices at most, one that comes finds room beside so many
abbrev pub HasRoomBeside : ℕ → ℕ → DevEvent → Type 0
HasRoomBeside count most (device.Add name carrier mtu mac) = count < most
HasRoomBeside count most (device.Remove name) = ⊤
HasRoomBeside count most (device.Carrier name on) = ⊤

-- there is memory for a device that comes
abbrev pub HasDeviceRoom : Known → DevEvent → Type 0
HasDeviceRoom known what = HasRoomBeside (length known.inputs.devices) known.most_devices what

-- a request has that number
abbrev pub has_number : ℕ → OpenInterface → Bool
has_number number o = o.number == number

-- the open request of a number
abbrev pub request_of : Inputs → ℕ → Option OpenInterface
request_of inputs number = find (has_number number) inputs.interfaces

-- the request of a number is no longer open
abbrev pub without_request : Inputs → ℕ → Inputs
without_request inputs number =
    record inputs { interfaces = filter (λ o. not (has_number number o)) inputs.interfaces }

-- a request is opened with the next number
abbrev pub with_request : Inputs → InterfaceRequest → Inputs
with_request inputs request = record inputs {
  interfaces = inputs.interfaces ++ opened_interfaces inputs.next (request ∷ []);
  next = inputs.next + 1;
}
