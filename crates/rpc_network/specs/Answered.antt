-- What a call of an object of the network comes to (OpenWrt's netifd): what it does is what the line of a script does
-- that means the same. Refusals are told as statuses of libubus.
use Rattle.std.specs.Prelude.{ℕ, List, [], Bool, Option, Some, None, Result, Ok, Err, ◌≡◌, refl}
use Rattle.serde_json.specs.Data.{Data}
use Rattle.blob_codec.specs.declared.blob.Attr.{Attr}
use Rattle.blob_json.specs.declared.json_error.JsonError.{JsonError}
use Rattle.blob_json.specs.FromJson.{attrs_of}
use Rattle.kern_model.specs.declared.kernel.Asked.{Asked}
use Rattle.net_rules.specs.Moment.{Moment}
use Rattle.net_status.specs.Interfaces.{interface_status, dump}
use Rattle.net_status.specs.Radios.{radio_status}
use Rattle.net_plane.specs.declared.net_error.NetError.{NetError}
use Rattle.script_lines.specs.declared.call_status.CallStatus.{CallStatus}
use Rattle.script_lines.specs.declared.call_status.CallStatus.TheVariants as status
use Rattle.script_lines.specs.declared.line_error.LineError.{LineError}
use Rattle.script_lines.specs.declared.line_error.LineError.TheVariants as error
use Rattle.step_net.specs.NetLine.{NetLine}
use Rattle.step_net.specs.Acted.{Acted, acted, named_device}
use Rattle.step_net.specs.Told.{line_error}
use Rattle.rpc_network.specs.declared.net_answer.NetAnswer.{NetAnswer}

-- the plane behind it, what the kernel was asked, the lines of requests, and the payload or why it is refused
pub record Answered : Type 0 where
  pub net : Moment
  pub asked : List Asked
  pub requests : List ℕ
  pub answer : Result (List Attr) CallStatus

-- The status of a refusal: 4 where an interface, a device or a radio is not there; 2 for a number that is not the one
-- asked for, a device that is there, a wrong number of ports, a list that is too long, and a file that does not read; 9
-- where the kernel failed. No call of these objects is refused for anything else.
abbrev pub status_of : LineError → CallStatus
status_of error.NoInterface = status.NotFound
status_of error.NoDevice = status.NotFound
status_of error.NoRadio = status.NotFound
status_of (error.Stale given current) = status.InvalidArgument
status_of error.Known = status.InvalidArgument
status_of (error.WrongPorts wanted) = status.InvalidArgument
status_of (error.Limit number) = status.InvalidArgument
status_of error.Parse = status.InvalidArgument
status_of _ = status.UnknownError

-- an error of the plane; two are no refusals
abbrev pub status_of_line : Option LineError → Option CallStatus
status_of_line None = None
status_of_line (Some refusal) = Some (status_of refusal)

abbrev pub status_of_net : NetError → Option CallStatus
status_of_net e = status_of_line (line_error e)

-- an empty payload, or a refusal; a call shows no text
abbrev pub ended : Option LineError → Result (List Attr) CallStatus
ended None = Ok []
ended (Some refusal) = Err (status_of refusal)

abbrev pub of_acted : Acted → Answered
of_acted done = record { net = done.net; asked = done.asked; requests = done.requests; answer = ended done.refused }

-- a value as a payload; a value that none can hold is an unknown error
abbrev pub payload_of : Result (List Attr) JsonError → Result (List Attr) CallStatus
payload_of (Ok attrs) = Ok attrs
payload_of (Err fault) = Err status.UnknownError

-- a status as a payload, or that there is nothing of the name
abbrev pub shown : Option Data → Result (List Attr) CallStatus
shown None = Err status.NotFound
shown (Some value) = payload_of (attrs_of value)

abbrev pub showing : Moment → Option Data → Answered
showing net value = record { net = net; asked = []; requests = []; answer = shown value }

-- what a call comes to that means this, where the kernel fails at its event or not
abbrev pub answered : Moment → NetLine → Bool → Answered
answered net (NetLine.happens what) failed = of_acted (acted net (NetLine.happens what) failed)
answered net NetLine.dump failed = showing net (Some (dump net.inputs))
answered net (NetLine.interface name) failed = showing net (interface_status net.inputs name)
answered net (NetLine.device name) failed = showing net (named_device net.inputs name)
answered net (NetLine.radio name) failed = showing net (radio_status net.inputs name)
answered net (NetLine.tells text refusal) failed =
    of_acted (acted net (NetLine.tells text refusal) failed)

-- nothing is asked, and it is refused
abbrev pub refused_as : CallStatus → NetAnswer
refused_as why = record { requests = []; answer = Err why }

-- a kernel that failed is status 9, and an interface that is not there is status 4
kernel_failed : ended (Some error.KernelFailed) ≡ Err status.UnknownError
kernel_failed = refl

no_interface : ended (Some error.NoInterface) ≡ Err status.NotFound
no_interface = refl
