use Rattle.std.proofs.Common.{true, false, rules, ◌∙◌}
use Rattle.net_view.proofs.PortLemmas.{joins_when}
use Rattle.net_view.proofs.radio_ports.join_by.Goals as goal

pub returns-then-is_bridge-is_owned : goal.returns-then-is_bridge-is_owned
returns-then-is_bridge-is_owned c = joins_when c.args.inputs.now.conf c.args.answer.now.port c.in-Some.device c.args.device.now c.is_bridge.result c.contains-is_owned.result true c.in-Some.is c.is_bridge.ensures
    (c.contains-is_owned.ensures ∙ c.requires.owned c.args.answer.now.port) c.if-is_bridge-is_owned.true

pub returns : goal.returns
returns c = joins_when c.args.inputs.now.conf c.args.answer.now.port c.in-Some.device c.args.device.now c.is_bridge.result c.contains-is_owned.result false c.in-Some.is c.is_bridge.ensures
    (c.contains-is_owned.ensures ∙ c.requires.owned c.args.answer.now.port) c.if-is_bridge-is_owned.false
