use Rattle.net_rules.proofs.StretchLemmas.{untouched_between}
use Rattle.net_rules.proofs.laws.same_footprint_is_not_touched.Goals as goal

pub returns : goal.returns
returns c = untouched_between
