use Rattle.std.proofs.Common.{arith, ◌≡◌, length, vec_len, vec_capacity, ap, sym, subst, ◌∙◌}
use Rattle.net_rules.specs.declared.event.Event.TheVariants as event
use Rattle.net_rules.specs.After.{changed}
use Rattle.known_inputs.specs.Known.{Known, StandOnce, device_names}
use Rattle.known_inputs.specs.Steps.{name_of, place_of, HasRoomBeside, HasDeviceRoom}
use Rattle.known_inputs.specs.Inside.{inputs_in, known_in}
use Rattle.known_inputs.proofs.StandLemmas.{stands_happened}
use Rattle.known_inputs.proofs.known.KnownInputs.happen.Goals as goal

pub change-requires-clause-once : goal.change-requires-clause-once
change-requires-clause-once c = c.self.invariant.once.devices

pub change-requires-clause-place : goal.change-requires-clause-place
change-requires-clause-place c = c.requires.place ∙ ap (λ known. place_of (device_names known.inputs) (name_of c.args.event.now)) (sym c.self.view_is)

pub change-requires-clause-room : goal.change-requires-clause-room
change-requires-clause-room c =
    let k = c.self.inside in
    let long : length k.devices.items ≡ vec_len k.devices = omega (arith, k.devices.ok.0) in
    subst (λ n. HasRoomBeside n (vec_capacity k.devices) c.args.event.now) long (subst (λ known. HasDeviceRoom known c.args.event.now) (sym c.self.view_is) c.requires.room)

pub invariant_of-self : goal.invariant_of-self
invariant_of-self c =
    let k = c.self.inside in
    record {
      once = subst (λ es. StandOnce (record (inputs_in k) { devices = es })) (sym c.change.ensures.items) (stands_happened (inputs_in k) c.args.event.now c.self.invariant.once);
      operator_states = c.self.invariant.operator_states;
      requests = c.self.invariant.requests;
    }

pub returns : goal.returns
returns c =
    let k = c.self.inside in
    ap (λ most. record (known_in k) { inputs = record (inputs_in k) { devices = c.change.new.devices.items }; most_devices = most }) c.change.ensures.room
    ∙ ap (λ es. record (known_in k) { inputs = record (inputs_in k) { devices = es } }) c.change.ensures.items
    ∙ ap (λ (known : Known). record known { inputs = changed known.inputs (event.Device c.args.event.now) }) c.self.view_is
