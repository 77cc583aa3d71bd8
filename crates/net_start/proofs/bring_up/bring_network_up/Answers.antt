use Rattle.std.proofs.Common.{◌≡◌, ◌∙◌, ap, sym, refl}
use Rattle.kern_model.specs.declared.object.Call.{Call}
use Rattle.std.proofs.Common.{List}
use Rattle.std.specs.FinSet as set
use Rattle.kern_model.specs.ObjectOrder.{set_of}
use Rattle.kern_calls.specs.Calls.{calls}
use Rattle.net_rules.specs.Notices.{notices}
use Rattle.net_rules.specs.Moment.{Moment, devices_of, want_of, moment_after}
use Rattle.net_settle.specs.Outside.{outside_of}
use Rattle.net_plane.specs.Network.{moment_of, calls_of}
use Rattle.net_start.specs.Inputs.{rows_of, loading, inputs_with, present_of, start_inputs, start_calls, start_requests, start_wants, lines_of_requests}
use Rattle.net_start.proofs.SettlingLemmas.{ends_as, started}
use Rattle.net_start.proofs.bring_up.bring_network_up.Goals as goal

pub settle-requires : goal.settle-requires
settle-requires g c =
    let of = c.add_devices.ensures.of in
    let same = c.load.ensures.kernel in
    record {
      devices = of.devices ∙ sym same.devices;
      objects = of.objects ∙ ap set_of (sym same.held);
    }

abbrev calls_at : Moment → List Call
calls_at moment = calls (devices_of moment.inputs) moment.held (want_of moment.inputs)

pub returns-clause-ends : goal.returns-clause-ends
returns-clause-ends g c =
    let names = c.args.names.now in
    let network = c.args.network.now in
    let before = outside_of g.O.Sink g.K.Kernel c.args.out.now c.args.kernel.now in
    let between = outside_of g.O.Sink g.K.Kernel c.args.out.now c.add_devices.new.kernel in
    let after = outside_of g.O.Sink g.K.Kernel c.settle.new.out c.settle.new.kernel in
    let present = present_of between.devices names in
    let added = c.in-Ok.ensures.moment in
    let loaded : moment_of c.load.new.net
    ≡ record { inputs = start_inputs network present; held = set.empty } =
    c.in-Ok-load.ensures.moment ∙ ap (λ m. moment_after m (loading network)) added in
    let requests : c.as_slice.result.now ≡ start_requests network present =
    c.as_slice.ensures.value ∙ (c.in-Ok-load.ensures.requests
    ∙ ap (λ (m : Moment). lines_of_requests (rows_of network) (notices m.inputs (loading network)))
    added) in
    started names network before between after c.settle.result
    (record {
      came = c.in-Ok.ensures.came;
      asked = c.in-Ok.ensures.asked;
      objects = c.add_devices.ensures.objects;
      calls = c.add_devices.ensures.calls;
      out = refl;
      out_faults = refl;
    })
    (ends_as _ (start_calls network present) _ (start_requests network present) _
    (start_wants network present) between after c.settle.result (ap calls_at loaded) requests
    (ap (λ (m : Moment). want_of m.inputs) loaded) c.settle.ensures)
