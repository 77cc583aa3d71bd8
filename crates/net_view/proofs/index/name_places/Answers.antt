use Rattle.net_rows.specs.declared.rows.NameRow.{NameRow}
use Rattle.net_view.proofs.PlaceLemmas.{places_go_on}
use Rattle.net_view.proofs.index.name_places.Goals as goal

pub loop-place-preserved : goal.loop-place-preserved
loop-place-preserved c = places_go_on (λ (row : NameRow). row.name) c.loop-place.places c.note_name.new.places c.args.names.now c.loop-place.place c.index-names-place.result c.loop-place.invariant c.in_ok-note_name.ensures
    c.loop-place-test.true c.index-names-place.is
