use Rattle.net_addr.proofs.CidrLemmas.{SpellsCidr_unique}
use Rattle.net_addr.proofs.laws.one_cidr.Goals as goal

pub returns : goal.returns
returns c = SpellsCidr_unique
