use Rattle.plane_main.proofs.StartLemmas.{network_one}
use Rattle.plane_main.proofs.laws.one_network.Goals as goal

pub returns : goal.returns
returns c = network_one
