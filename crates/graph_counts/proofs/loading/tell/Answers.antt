use Rattle.std.proofs.Common.{arith, refl, ap, length, ◌<◌, ◌∙◌, is_some, false}
use Rattle.std.specs.Option.{option_map_or}
use Rattle.kern_model.specs.declared.object.Device.{Device}
use Rattle.use_counts.specs.Network.{with_claim}
use Rattle.graph_counts.proofs.TellLemmas.{told_more, start_told, length_told, length_device}
use Rattle.graph_counts.proofs.loading.tell.Goals as goal

pub loop-id-init : goal.loop-id-init
loop-id-init g c = record { counts = start_told c.args.counts.now c.args.names.now; room = refl }

pub tell_device-requires-clause-within : goal.tell_device-requires-clause-within
tell_device-requires-clause-within g c =
    omega (arith, c.loop-id-test.true, c.len-id-end.ensures.length, c.requires.size, length_told c.args.counts.now c.loop-id.counts c.args.names.now c.loop-id.id c.loop-id.invariant.counts)

pub tell_device-requires-clause-room : goal.tell_device-requires-clause-room
tell_device-requires-clause-room g c =
    omega (arith, c.requires.size, c.requires.room, c.loop-id.invariant.room, length_told c.args.counts.now c.loop-id.counts c.args.names.now c.loop-id.id c.loop-id.invariant.counts)

pub set_claim-requires-clause-room : goal.set_claim-requires-clause-room
set_claim-requires-clause-room g c =
    omega (
      arith,
      c.requires.size,
      c.requires.room,
      c.loop-id.invariant.room,
      c.tell_device.ensures.stay.room,
      length_told c.args.counts.now c.loop-id.counts c.args.names.now c.loop-id.id c.loop-id.invariant.counts,
      length_device c.loop-id.counts c.tell_device.new.counts c.loop-id.id _ _ c.tell_device.ensures.device,
    )

pub set_claim-requires-clause-within : goal.set_claim-requires-clause-within
set_claim-requires-clause-within g c =
    omega (
      arith,
      c.loop-id-test.true,
      c.len-id-end.ensures.length,
      c.requires.size,
      length_told c.args.counts.now c.loop-id.counts c.args.names.now c.loop-id.id c.loop-id.invariant.counts,
      length_device c.loop-id.counts c.tell_device.new.counts c.loop-id.id _ _ c.tell_device.ensures.device,
    )

pub loop-id-preserved : goal.loop-id-preserved
loop-id-preserved g c =
    let id = c.loop-id.id in
    let within : id < length c.args.names.now = omega (arith, c.loop-id-test.true, c.len-id-end.ensures.length) in
    record {
      counts = told_more c.args.counts.now c.loop-id.counts c.set_claim.new.self c.args.names.now id _ _ _ c.requires.size within (ap is_some c.device.ensures) (ap (λ d. option_map_or (λ (x : Device). x.carrier) d false) c.device.ensures)
          c.claims.ensures c.loop-id.invariant.counts (c.set_claim.ensures.net ∙ ap (λ net. with_claim net id c.claims.result) c.tell_device.ensures.device);
      room = c.set_claim.ensures.uses.stay.room ∙ c.tell_device.ensures.stay.room ∙ c.loop-id.invariant.room;
    }
