use Rattle.net_after.proofs.AskedLemmas.{radios_left}
use Rattle.net_after.proofs.drops.radios_dropped.Goals as goal

pub returns : goal.returns
returns c = radios_left c.args.inputs c.args.needs.now c.in_ok-kept.kept c.requires c.in_ok-kept.ensures
