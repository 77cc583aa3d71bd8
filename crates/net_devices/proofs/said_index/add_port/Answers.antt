use Rattle.std.proofs.Common.{sym, ◌∙◌}
use Rattle.net_devices.proofs.FoundLemmas.{port_put}
use Rattle.net_devices.proofs.said_index.add_port.Goals as goal

pub returns : goal.returns
returns c = port_put c.args.owners.now c.insert.new.self c.args.bridge.now c.args.port.now (sym c.contains_key.ensures ∙ c.if-contains_key.false) c.in_ok-insert.ensures.updates.0
