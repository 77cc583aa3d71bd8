use Rattle.net_reach.proofs.AlikeLemmas.{alike_reach, told_again}
use Rattle.net_reach.proofs.laws.reach_stays.Goals as goal

pub returns : goal.returns
returns c = record { alike = alike_reach; again = told_again }
