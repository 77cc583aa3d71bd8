use Rattle.std.proofs.Common.{◌≡◌, refl, ap, subst, ◌∙◌, true, false, inr, None}
use Rattle.std.specs.Prelude.{◌⊎◌}
use Rattle.serde_json.specs.View.{view}
use Rattle.kern_model.specs.Name.{is_name}
use Rattle.net_plane.specs.declared.net_error.NetError.TheVariants as net_error
use Rattle.net_plane.specs.Network.{moment_of}
use Rattle.net_status.specs.Devices.{device_status}
use Rattle.script_lines.specs.declared.line_error.LineError.TheVariants as error
use Rattle.step_net.specs.NetLine.{NetLine}
use Rattle.step_net.specs.Acted.{shown_or}
use Rattle.step_net.proofs.FloatLemmas.{device_status_has_none}
use Rattle.step_net.proofs.ShowLemmas.{shows, shows_none, named, unnamed}
use Rattle.step_net.proofs.show.show_device.Goals as goal

pub show-requires : goal.show-requires
show-requires c =
    device_status_has_none c.args.net.now.inputs c.in-Some.name (view c.in-Ok.value) c.in-Ok.ensures

pub returns-in_default : goal.returns-in_default
returns-in_default c =
    let net = moment_of c.args.net.now in
    let none = unnamed net.inputs c.args.name.now (subst (λ text. is_name text ≡ false) c.as_bytes.ensures c.in_default.ensures.none) in
    shows_none (NetLine.device c.args.name.now) c.args.net.now error.NoDevice None c.refuse.result
    net_error.NoDevice net_error.NoDevice (ap (shown_or net error.NoDevice) none) refl
    (inr (refl, refl)) c.refuse.ensures

pub returns-in-Ok : goal.returns-in-Ok
returns-in-Ok c =
    let net = moment_of c.args.net.now in
    let name = c.in-Some.name in
    let same : name ≡ c.args.name.now = c.in-Some.ensures.some.0 ∙ c.as_bytes.ensures in
    let is = named net.inputs c.args.name.now (subst (λ text. is_name text ≡ true) c.as_bytes.ensures c.in-Some.ensures.some.1) in
    shows (NetLine.device c.args.name.now) c.args.net.now error.NoDevice
    (device_status net.inputs c.args.name.now) c.show.result (view c.in-Ok.value)
    (ap (shown_or net error.NoDevice) is)
    (c.in-Ok.ensures ∙ ap (device_status net.inputs) same) c.show.ensures

pub returns-in-Err : goal.returns-in-Err
returns-in-Err c =
    let net = moment_of c.args.net.now in
    let name = c.in-Some.name in
    let same : name ≡ c.args.name.now = c.in-Some.ensures.some.0 ∙ c.as_bytes.ensures in
    let is = named net.inputs c.args.name.now (subst (λ text. is_name text ≡ true) c.as_bytes.ensures c.in-Some.ensures.some.1) in
    shows_none (NetLine.device c.args.name.now) c.args.net.now error.NoDevice
    (device_status net.inputs c.args.name.now) c.refuse_or.result c.in-Err.error
    net_error.NoDevice (ap (shown_or net error.NoDevice) is) refl
    (subst (λ name. (c.in-Err.error ≡ net_error.Memory) ⊎ ((c.in-Err.error ≡ net_error.NoDevice)
    × (device_status net.inputs name ≡ None))) same c.in-Err.ensures) c.refuse_or.ensures
