use Rattle.net_rules.proofs.AskedLemmas.{asked_then, others_stay}
use Rattle.net_rules.proofs.ToldLemmas.{told_then}
use Rattle.net_rules.proofs.asked_laws.requests_follow_touched_needs.Goals as goal

pub returns : goal.returns
returns c = record { asked = asked_then; told = told_then; others = others_stay }
