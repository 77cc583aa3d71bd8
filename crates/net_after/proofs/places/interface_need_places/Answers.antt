use Rattle.net_rules.specs.declared.request.InterfaceRequest.{InterfaceRequest}
use Rattle.net_view.proofs.PlaceLemmas.{places_go_on}
use Rattle.net_after.proofs.places.interface_need_places.Goals as goal

pub loop-place-preserved : goal.loop-place-preserved
loop-place-preserved c = places_go_on (λ (x : InterfaceRequest). x.name) c.loop-place.places c.note_text.new.places c.args.needs.now c.loop-place.place c.index-needs-place.result c.loop-place.invariant c.in_ok-note_text.ensures
    c.loop-place-test.true c.index-needs-place.is
