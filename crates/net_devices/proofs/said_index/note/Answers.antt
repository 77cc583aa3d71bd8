use Rattle.std.proofs.Common.{refl}
use Rattle.uci_tree.proofs.SectionLemmas.{noted_key}
use Rattle.net_devices.proofs.said_index.note.Goals as goal

pub returns : goal.returns
returns c = noted_key c.args.places.now c.insert.new.self c.args.name.now c.args.name.now c.args.place c.contains_key.result refl c.contains_key.ensures c.if-contains_key.false c.in_ok-insert.ensures.updates.0
