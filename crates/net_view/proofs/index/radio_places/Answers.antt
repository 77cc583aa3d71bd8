use Rattle.net_rows.specs.declared.rows.RadioRow.{RadioRow}
use Rattle.net_view.proofs.PlaceLemmas.{places_go_on}
use Rattle.net_view.proofs.index.radio_places.Goals as goal

pub loop-place-preserved : goal.loop-place-preserved
loop-place-preserved c = places_go_on (λ (row : RadioRow). row.name) c.loop-place.places c.note_text.new.places c.args.radios.now c.loop-place.place c.index-radios-place.result c.loop-place.invariant c.in_ok-note_text.ensures
    c.loop-place-test.true c.index-radios-place.is
