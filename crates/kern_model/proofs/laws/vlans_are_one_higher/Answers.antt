use Rattle.kern_model.proofs.AllowedLemmas.{one_higher, lowest}
use Rattle.kern_model.proofs.laws.vlans_are_one_higher.Goals as goal

pub returns-clause-vlan : goal.returns-clause-vlan
returns-clause-vlan c = one_higher

pub returns-clause-other : goal.returns-clause-other
returns-clause-other c = lowest
