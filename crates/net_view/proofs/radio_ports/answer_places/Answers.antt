use Rattle.net_view.specs.declared.radio_ports.PortAnswer.{PortAnswer}
use Rattle.net_view.proofs.PlaceLemmas.{places_go_on}
use Rattle.net_view.proofs.radio_ports.answer_places.Goals as goal

pub loop-place-preserved : goal.loop-place-preserved
loop-place-preserved c = places_go_on (λ (answer : PortAnswer). answer.interface) c.loop-place.places c.note_text.new.places c.args.answered.now c.loop-place.place c.index-answered-place.result c.loop-place.invariant
    c.in_ok-note_text.ensures c.loop-place-test.true c.index-answered-place.is
