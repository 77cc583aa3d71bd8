use Rattle.graph_wishes.proofs.WishLemmas.{wants_used_mays}
use Rattle.graph_wishes.proofs.laws.wants_are_used_mays.Goals as goal

pub returns : goal.returns
returns c = wants_used_mays
