use Rattle.net_rules.proofs.StretchLemmas.{untouched}
use Rattle.net_rules.proofs.laws.footprint_is_not_touched.Goals as goal

pub returns : goal.returns
returns c facts devices row held wanted sound same admitted has stays = untouched facts devices sound same row held admitted has wanted stays
