use Rattle.use_counts.proofs.SettleLemmas.{same_points}
use Rattle.use_counts.proofs.graph.settle_all.Goals as goal

pub returns-then-made_count-gt0-clause-members : goal.returns-then-made_count-gt0-clause-members
returns-then-made_count-gt0-clause-members g c = same_points c.settle.new.nodes c.args.nodes.now c.settle.ensures.settles.size c.settle.ensures.settles.members
