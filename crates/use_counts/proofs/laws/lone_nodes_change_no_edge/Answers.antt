use Rattle.use_counts.proofs.AloneLemmas.{alone_unchanged}
use Rattle.use_counts.proofs.laws.lone_nodes_change_no_edge.Goals as goal

pub returns : goal.returns
returns c = alone_unchanged
