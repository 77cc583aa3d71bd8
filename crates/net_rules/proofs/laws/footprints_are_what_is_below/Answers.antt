use Rattle.net_rules.proofs.FootprintLemmas.{footprint_says, said_footprint}
use Rattle.net_rules.proofs.laws.footprints_are_what_is_below.Goals as goal

pub returns : goal.returns
returns c facts row o = (footprint_says facts row o, said_footprint facts row o)
