use Rattle.net_rules.proofs.WantLemmas.{of_wanted, has_wanted}
use Rattle.net_rules.proofs.laws.objects_are_wanted.Goals as goal

pub returns : goal.returns
returns c facts sound o = (of_wanted facts sound o, has_wanted facts sound o)
