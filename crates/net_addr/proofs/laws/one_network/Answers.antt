use Rattle.net_addr.proofs.NetworkLemmas.{IsNetworkOf_unique}
use Rattle.net_addr.proofs.laws.one_network.Goals as goal

pub returns : goal.returns
returns c = IsNetworkOf_unique
