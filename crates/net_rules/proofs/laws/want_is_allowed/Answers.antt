use Rattle.net_rules.proofs.AllowedLemmas.{allowed}
use Rattle.net_rules.proofs.laws.want_is_allowed.Goals as goal

pub returns : goal.returns
returns c = allowed
