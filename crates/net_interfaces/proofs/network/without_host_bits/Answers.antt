use Rattle.net_interfaces.proofs.NetworkLemmas.{network_is}
use Rattle.net_interfaces.proofs.network.without_host_bits.Goals as goal

pub returns : goal.returns
returns c = network_is c.args.cidr c.network_of-network.result c.has_form.ensures c.has_form-2.ensures c.network_of-network.ensures
