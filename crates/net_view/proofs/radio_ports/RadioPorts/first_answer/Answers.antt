use Rattle.net_view.specs.declared.radio_ports.PortAnswer.{PortAnswer}
use Rattle.net_view.proofs.PlaceLemmas.{by_map, by_map_none}
use Rattle.net_view.proofs.radio_ports.RadioPorts.first_answer.Goals as goal

pub returns-in-Some : goal.returns-in-Some
returns-in-Some c = by_map (λ (answer : PortAnswer). answer.interface) c.args.self.now.answered.items c.args.interface.now c.args.self.now.answers c.in-Some.place.now c.as_slice.result.now c.get-in-Some.result c.requires
    c.in-Some.ensures.value c.as_slice.ensures.value c.get-in-Some.ensures.lookup

pub returns-in-None : goal.returns-in-None
returns-in-None c = by_map_none (λ (answer : PortAnswer). answer.interface) c.args.self.now.answered.items c.args.interface.now c.args.self.now.answers c.requires c.in-None.ensures.value
