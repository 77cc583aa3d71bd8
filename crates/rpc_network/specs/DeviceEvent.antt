-- What happens to a device, by the arguments of `event`.
use Rattle.std.specs.Prelude.{ℕ, ◌^◌, List, Bool, true, Option, Some, None, codes, nat_lt, if◌then◌else◌}
use Rattle.std.specs.Option.{option_map, option_and_then}
use Rattle.kern_model.specs.Name.{is_name}
use Rattle.kern_model.specs.declared.object.Mac.{Mac}
use Rattle.kern_model.specs.declared.object.DevEvent.{DevEvent}
use Rattle.kern_model.specs.declared.object.DevEvent.TheVariants as event
use Rattle.net_rows.specs.HardwareAddress as address
use Rattle.blob_codec.specs.declared.blob.Blob.{Blob}
use Rattle.blob_codec.specs.declared.blob.Attr.{Attr}
use Rattle.rpc_session.specs.Arguments.{argument, text_of as text_of_value}
use Rattle.script_lines.specs.Lines.{zeros}
use Rattle.rpc_network.specs.Arguments.{whole_of, text, truth, truth_or}

-- a number of 32 bits
abbrev pub of_32_bits : ℕ → Option ℕ
of_32_bits number = if nat_lt number (2 ^ 32) then Some number else None

-- the MTU: 1,500 bytes where it is not there
abbrev pub mtu_by : Option Blob → Option ℕ
mtu_by None = Some 1500
mtu_by (Some value) = option_and_then of_32_bits (whole_of value)

abbrev pub mtu_of : List Attr → Option ℕ
mtu_of args = mtu_by (argument (codes "mtu") args)

-- the hardware address: zeros where it is not there
abbrev pub mac_by : Option Blob → Option Mac
mac_by None = Some zeros
mac_by (Some value) = option_and_then address.mac_of (text_of_value value)

abbrev pub mac_of : List Attr → Option Mac
mac_of args = mac_by (argument (codes "macaddr") args)

-- a device comes: with a carrier, where nothing else is said
abbrev pub coming_by : List ℕ → Option Bool → Option ℕ → Option Mac → Option DevEvent
coming_by name (Some carrier) (Some mtu) (Some mac) = Some (event.Add name carrier mtu mac)
coming_by name _ _ _ = None

abbrev pub coming_of : List ℕ → List Attr → Option DevEvent
coming_of name args =
    coming_by name (truth_or true (codes "carrier") args) (mtu_of args) (mac_of args)

-- by `present` it comes, or leaves, and then the other arguments are passed over
abbrev pub presence_of : List ℕ → List Attr → Option DevEvent
presence_of name args =
    option_and_then (λ there. if there then coming_of name args else Some (event.Remove name))
    (truth (codes "present") args)

-- without `present` its carrier changes
abbrev pub carrier_of : List ℕ → List Attr → Option DevEvent
carrier_of name args = option_map (event.Carrier name) (truth (codes "carrier") args)

abbrev pub event_by : List ℕ → List Attr → Option Blob → Option DevEvent
event_by name args None = carrier_of name args
event_by name args (Some present) = presence_of name args

-- the name of a device
abbrev pub named : List ℕ → Option (List ℕ)
named text = if is_name text then Some text else None

abbrev pub event_of : List Attr → Option DevEvent
event_of args =
    option_and_then (λ name. event_by name args (argument (codes "present") args))
    (option_and_then named (text (codes "name") args))
