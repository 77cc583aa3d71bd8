use Rattle.net_rules.specs.declared.inputs.OpenRadio.{OpenRadio}
use Rattle.net_view.proofs.PlaceLemmas.{places_go_on}
use Rattle.net_view.proofs.index.radio_request_places.Goals as goal

pub loop-place-preserved : goal.loop-place-preserved
loop-place-preserved c = places_go_on (λ (o : OpenRadio). o.request.name) c.loop-place.places c.note_text.new.places c.args.radio_requests.now c.loop-place.place c.index-radio_requests-place.result c.loop-place.invariant
    c.in_ok-note_text.ensures
    c.loop-place-test.true c.index-radio_requests-place.is
