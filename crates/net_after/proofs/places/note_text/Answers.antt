use Rattle.uci_tree.proofs.SectionLemmas.{noted_key}
use Rattle.net_after.proofs.places.note_text.Goals as goal

pub returns : goal.returns
returns c = noted_key c.args.places.now c.insert.new.self _ c.args.text.now _ _ c.in_ok-copy.ensures c.contains_key.ensures c.if-contains_key.false c.in_ok-_none.ensures.updates.0
