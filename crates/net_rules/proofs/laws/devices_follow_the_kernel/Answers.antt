use Rattle.net_rules.proofs.MomentLemmas.{devices_follow}
use Rattle.net_rules.proofs.laws.devices_follow_the_kernel.Goals as goal

pub returns : goal.returns
returns c = devices_follow
