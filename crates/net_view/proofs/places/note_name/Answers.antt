use Rattle.std.proofs.Common.{refl}
use Rattle.uci_tree.proofs.SectionLemmas.{noted_key}
use Rattle.net_view.proofs.places.note_name.Goals as goal

pub returns : goal.returns
returns c = noted_key c.args.places.now c.insert.new.self c.args.name.now c.args.name.now _ _ refl c.contains_key.ensures c.if-contains_key.false c.in_ok-_none.ensures.updates.0
