use Rattle.net_rules.proofs.StretchLemmas.{inputs_allowed}
use Rattle.net_rules.proofs.laws.inputs_want_what_is_allowed.Goals as goal

pub returns : goal.returns
returns c = inputs_allowed
