use Rattle.std.proofs.Common.{map}
use Rattle.net_rules.specs.Inputs.{facts_of}
use Rattle.net_view.specs.RadioPorts.{as_answered}
use Rattle.net_view.proofs.PortLemmas.{device_by_port}
use Rattle.net_states.proofs.load.device_of.Goals as goal

pub returns-in-None : goal.returns-in-None
returns-in-None c = device_by_port (facts_of c.args.inputs.now) c.args.row.now c.first_port.result (map as_answered c.args.ports.now.answered.items) c.in-None.is c.requires.answered c.first_port.ensures
