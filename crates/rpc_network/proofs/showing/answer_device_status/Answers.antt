use Rattle.std.proofs.Common.{◌≡◌, refl, ap, subst, ◌∙◌, true, false, inr, None}
use Rattle.std.specs.Prelude.{◌⊎◌, Ok}
use Rattle.serde_json.specs.View.{view}
use Rattle.kern_model.specs.Name.{is_name}
use Rattle.net_plane.specs.declared.net_error.NetError.TheVariants as net_error
use Rattle.net_plane.specs.Network.{moment_of}
use Rattle.net_status.specs.Devices.{device_status}
use Rattle.plane_io.specs.declared.outcome.Memory.{Memory}
use Rattle.step_net.specs.NetLine.{NetLine}
use Rattle.rpc_network.specs.Answered.{showing}
use Rattle.step_net.proofs.ShowLemmas.{named, unnamed}
use Rattle.rpc_network.proofs.ShowLemmas.{shows, shows_none}
use Rattle.rpc_network.proofs.showing.answer_device_status.Goals as goal

pub returns-in_default : goal.returns-in_default
returns-in_default c =
    let net = moment_of c.args.net.now in
    let none = unnamed net.inputs c.args.name.now (subst (λ text. is_name text ≡ false) c.as_bytes.ensures c.in_default.ensures.none) in
    shows_none {M = Memory} (NetLine.device c.args.name.now) c.args.net.now None (Ok c.refuse.result)
    net_error.NoDevice net_error.NoDevice (ap (showing net) none) refl
    (inr (refl, refl)) c.refuse.ensures

pub returns-in-Ok : goal.returns-in-Ok
returns-in-Ok c =
    let net = moment_of c.args.net.now in
    let name = c.in-Some.name in
    let same : name ≡ c.args.name.now = c.in-Some.ensures.some.0 ∙ c.as_bytes.ensures in
    let is = named net.inputs c.args.name.now (subst (λ text. is_name text ≡ true) c.as_bytes.ensures c.in-Some.ensures.some.1) in
    shows (NetLine.device c.args.name.now) c.args.net.now
    (device_status net.inputs c.args.name.now) c.show.result (view c.in-Ok.value)
    (ap (showing net) is)
    (c.in-Ok.ensures ∙ ap (device_status net.inputs) same) c.show.ensures

pub returns-in-Err : goal.returns-in-Err
returns-in-Err c =
    let net = moment_of c.args.net.now in
    let name = c.in-Some.name in
    let same : name ≡ c.args.name.now = c.in-Some.ensures.some.0 ∙ c.as_bytes.ensures in
    let is = named net.inputs c.args.name.now (subst (λ text. is_name text ≡ true) c.as_bytes.ensures c.in-Some.ensures.some.1) in
    shows_none (NetLine.device c.args.name.now) c.args.net.now
    (device_status net.inputs c.args.name.now) c.refuse_for.result c.in-Err.error
    net_error.NoDevice (ap (showing net) is) refl
    (subst (λ name. (c.in-Err.error ≡ net_error.Memory) ⊎ ((c.in-Err.error ≡ net_error.NoDevice)
    × (device_status net.inputs name ≡ None))) same c.in-Err.ensures) c.refuse_for.ensures
