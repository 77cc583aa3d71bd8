use Rattle.uci_delta.proofs.BatchLemmas.{places_grow}
use Rattle.uci_delta.proofs.places.places_of.Goals as goal

pub loop-place-preserved : goal.loop-place-preserved
loop-place-preserved c = places_grow c.loop-place.places c.note.new.places c.args.sections.now _ _ _ c.loop-place.invariant c.in_ok-note.ensures c.loop-place-test.true c.index-sections-place.is
