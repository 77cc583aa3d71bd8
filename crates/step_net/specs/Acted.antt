-- What a line does and has to tell before it is settled.
use Rattle.std.specs.Prelude.{ℕ, List, [], ◌∷◌, ◌++◌, Bool, true, false, Option, Some, None, codes, if◌then◌else◌}
use Rattle.std.specs.List.{flat_map}
use Rattle.serde_json.specs.Data.{Data}
use Rattle.serde_json.specs.Written.{compact_text}
use Rattle.kern_model.specs.declared.object.DevEvent.{DevEvent}
use Rattle.kern_model.specs.declared.kernel.Asked.{Asked}
use Rattle.kern_model.specs.declared.kernel.Asked.TheVariants as asked
use Rattle.kern_model.specs.Name.{is_name}
use Rattle.net_rows.specs.declared.rows.Conf.{Conf}
use Rattle.net_rules.specs.declared.inputs.Inputs.{Inputs}
use Rattle.net_rules.specs.declared.event.Event.{Event}
use Rattle.net_rules.specs.declared.event.Event.TheVariants as event
use Rattle.net_rules.specs.declared.event.Notice.{Notice}
use Rattle.net_rules.specs.declared.refusal.Refusal.{Refusal}
use Rattle.net_rules.specs.declared.refusal.Refusal.TheVariants as why
use Rattle.net_rules.specs.After.{after}
use Rattle.net_rules.specs.Moment.{Moment, moment_after}
use Rattle.net_rules.specs.Notices.{notices}
use Rattle.net_rules.specs.Refusal.{refusal}
use Rattle.net_status.specs.Interfaces.{interface_status, dump}
use Rattle.net_status.specs.Devices.{device_status}
use Rattle.net_status.specs.Radios.{radio_status}
use Rattle.request_lines.specs.RequestLine.{request_line}
use Rattle.script_lines.specs.declared.line_error.LineError.{LineError}
use Rattle.script_lines.specs.declared.line_error.LineError.TheVariants as error
use Rattle.step_net.specs.NetLine.{NetLine}

-- The plane behind it, what the kernel was asked, the lines of requests, the reply, and why the line is
-- refused, if it is.
pub record Acted : Type 0 where
  pub net : Moment
  pub asked : List Asked
  pub requests : List ℕ
  pub reply : List ℕ
  pub refused : Option LineError

-- nothing is done, and this is replied
abbrev pub replied : Moment → List ℕ → Acted
replied net text = record { net = net; asked = []; requests = []; reply = text; refused = None }

-- nothing is done, for this reason
abbrev pub refused_for : Moment → LineError → Acted
refused_for net e = record { net = net; asked = []; requests = []; reply = []; refused = Some e }

-- nothing is done, and this is shown, and then told
abbrev pub told_alone : Moment → List ℕ → Option LineError → Acted
told_alone net text refusal =
    record { net = net; asked = []; requests = []; reply = text; refused = refusal }

-- the refusal of an event, as a line tells it
abbrev pub error_of : Refusal → LineError
error_of why.NoInterface = error.NoInterface
error_of why.NoRadio = error.NoRadio
error_of (why.Stale given current) = error.Stale given current
error_of why.NoDevice = error.NoDevice
error_of why.Known = error.Known
error_of (why.WrongPorts wanted) = error.WrongPorts wanted
error_of (why.Limit number) = error.Limit number

-- the kernel is told of what happens to a device, and of no other event
abbrev pub telling : Event → List Asked
telling (event.Device what) = asked.Event what true ∷ []
telling _ = []

-- the lines of what is told of requests
abbrev pub lines_of_requests : Conf → List Notice → List ℕ
lines_of_requests conf told = flat_map (request_line conf) told

abbrev pub requests_after : Inputs → Event → List ℕ
requests_after inputs what = lines_of_requests (after inputs what).conf (notices inputs what)

-- an event was taken
abbrev pub took : Moment → Event → Acted
took net what = record {
  net = moment_after net what;
  asked = telling what;
  requests = requests_after net.inputs what;
  reply = [];
  refused = None;
}

-- the kernel failed at what happens to a device, and nothing changes
abbrev pub failed_at : Moment → DevEvent → Acted
failed_at net what = record {
  net = net;
  asked = asked.Event what false ∷ [];
  requests = [];
  reply = [];
  refused = Some error.KernelFailed;
}

-- An event that nothing refuses. The kernel may fail at what happens to a device, and at no other
-- event, since it is told of none.
abbrev pub took_free : Moment → Event → Bool → Acted
took_free net (event.Device what) failed =
    if failed then failed_at net what else took net (event.Device what)
took_free net what failed = took net what

abbrev pub took_or_refused : Moment → Event → Bool → Option Refusal → Acted
took_or_refused net what failed None = took_free net what failed
took_or_refused net what failed (Some reason) = refused_for net (error_of reason)

-- a value on a line of its own, or an error where there is none
abbrev pub value_line : Data → List ℕ
value_line value = compact_text value ++ codes "\n"

abbrev pub shown_or : Moment → LineError → Option Data → Acted
shown_or net absent None = refused_for net absent
shown_or net absent (Some value) = replied net (value_line value)

-- no other text names a device
abbrev pub named_device : Inputs → List ℕ → Option Data
named_device inputs name = if is_name name then device_status inputs name else None

-- what a line does, where the kernel fails at its event or not
abbrev pub acted : Moment → NetLine → Bool → Acted
acted net (NetLine.happens what) failed = took_or_refused net what failed (refusal net what)
acted net NetLine.dump failed = replied net (value_line (dump net.inputs))
acted net (NetLine.interface name) failed =
    shown_or net error.NoInterface (interface_status net.inputs name)
acted net (NetLine.device name) failed = shown_or net error.NoDevice (named_device net.inputs name)
acted net (NetLine.radio name) failed =
    shown_or net error.NoRadio (radio_status net.inputs name)
acted net (NetLine.tells text refusal) failed = told_alone net text refusal
