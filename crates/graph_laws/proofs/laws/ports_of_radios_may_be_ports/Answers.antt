use Rattle.graph_laws.proofs.RadioLemmas.{are_ports}
use Rattle.graph_laws.proofs.laws.ports_of_radios_may_be_ports.Goals as goal

pub returns : goal.returns
returns c = are_ports
