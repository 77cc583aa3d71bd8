use Rattle.net_rules.specs.declared.inputs.OpenInterface.{OpenInterface}
use Rattle.net_view.proofs.PlaceLemmas.{places_go_on}
use Rattle.net_after.proofs.places.open_interface_places.Goals as goal

pub loop-place-preserved : goal.loop-place-preserved
loop-place-preserved c = places_go_on (λ (x : OpenInterface). x.request.name) c.loop-place.places c.note_text.new.places c.args.current.now c.loop-place.place c.index-current-place.result c.loop-place.invariant c.in_ok-note_text.ensures
    c.loop-place-test.true c.index-current-place.is
