use Rattle.std.proofs.Common.{sym, ◌∙◌}
use Rattle.net_addr.proofs.CidrLemmas.{before_slash_at, before_slash_none}
use Rattle.net_addr.proofs.read.before_slash.Goals as goal

pub returns-in-Some-clause-text : goal.returns-in-Some-clause-text
returns-in-Some-clause-text c = before_slash_at _ _ (sym c.first_slash.ensures ∙ c.in-Some.is)

pub returns-in-None-clause-text : goal.returns-in-None-clause-text
returns-in-None-clause-text c = before_slash_none _ (sym c.first_slash.ensures ∙ c.in-None.is)
