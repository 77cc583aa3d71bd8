use Rattle.net_rules.proofs.StretchLemmas.{none_named}
use Rattle.net_rules.proofs.laws.no_call_names_what_stayed.Goals as goal

pub returns : goal.returns
returns c = none_named
