use Rattle.std.proofs.Common.{ap, ◌∙◌}
use Rattle.std.specs.Option.{option_map}
use Rattle.std.proofs.Common.{Option}
use Rattle.net_view.specs.declared.radio_ports.PortAnswer.{PortAnswer}
use Rattle.net_view.proofs.JoinLemmas.{first_of}
use Rattle.net_view.proofs.radio_ports.RadioPorts.first_port.Goals as goal

pub returns-in-Some : goal.returns-in-Some
returns-in-Some c = ap (λ (o : Option PortAnswer). option_map (λ (a : PortAnswer). a.port) o) c.in-Some.ensures ∙ first_of c.args.self.now.answered.items c.args.interface.now

pub returns-in-None : goal.returns-in-None
returns-in-None c = ap (λ (o : Option PortAnswer). option_map (λ (a : PortAnswer). a.port) o) c.in-None.ensures ∙ first_of c.args.self.now.answered.items c.args.interface.now
