use Rattle.std.proofs.Common.{refl}
use Rattle.uci_tree.proofs.SectionLemmas.{noted_key}
use Rattle.net_reach.proofs.changes.note_device.Goals as goal

pub returns-clause-ok : goal.returns-clause-ok
returns-clause-ok c = noted_key c.args.devices.now c.insert.new.self c.args.name.now c.args.name.now _ _ refl c.contains_key.ensures c.if-contains_key.false c.in_ok-_none.ensures.updates.0
