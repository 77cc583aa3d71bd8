use Rattle.net_after.proofs.AskedLemmas.{interfaces_left}
use Rattle.net_after.proofs.drops.interfaces_dropped.Goals as goal

pub returns : goal.returns
returns c = interfaces_left c.args.inputs c.args.needs.now c.in_ok-kept.kept c.requires c.in_ok-kept.ensures
