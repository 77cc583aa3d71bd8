use Rattle.std.proofs.Common.{ℕ, List}
use Rattle.kern_model.specs.declared.object.Device.{Device}
use Rattle.net_view.proofs.PlaceLemmas.{places_go_on}
use Rattle.net_view.proofs.index.device_places.Goals as goal

pub loop-place-preserved : goal.loop-place-preserved
loop-place-preserved c = places_go_on (λ (entry : List ℕ × Device). entry.0) c.loop-place.places c.note_name.new.places c.args.devices.now c.loop-place.place c.index-devices-place.result c.loop-place.invariant c.in_ok-note_name.ensures
    c.loop-place-test.true c.index-devices-place.is
