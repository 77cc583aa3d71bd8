use Rattle.std.proofs.Common.{◌∙◌, sym, ap}
use Rattle.net_rules.specs.RadioPorts.{device_or_port}
use Rattle.net_looks.specs.Look.{facts_at}
use Rattle.net_looks.proofs.look.Look.device_of.Goals as goal

pub returns-in-None : goal.returns-in-None
returns-in-None c = c.first_port.ensures ∙ sym (ap (device_or_port (facts_at c.args.self.now) c.args.row.now.name) c.in-None.is)
