use Rattle.std.proofs.Common.{refl}
use Rattle.graph_tables.proofs.MoreLemmas.{then_last}
use Rattle.graph_tables.proofs.wishes.add_plain.Goals as goal

pub returns : goal.returns
returns c = then_last c.add_mac.result c.args.wishes.now.items _ _ _ _ _ c.in_ok-add_up.ensures refl c.add_mac.ensures
