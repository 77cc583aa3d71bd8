use Rattle.net_interfaces.proofs.NetworkLemmas.{is_network}
use Rattle.net_interfaces.proofs.laws.host_bits_are_cleared.Goals as goal

pub returns : goal.returns
returns c = is_network
