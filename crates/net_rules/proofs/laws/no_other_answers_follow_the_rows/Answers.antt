use Rattle.net_rules.proofs.AloneLemmas.{available_alone, link_alone, used_alone}
use Rattle.net_rules.proofs.laws.no_other_answers_follow_the_rows.Goals as goal

pub returns-clause-available : goal.returns-clause-available
returns-clause-available c = available_alone

pub returns-clause-link : goal.returns-clause-link
returns-clause-link c = link_alone

pub returns-clause-used : goal.returns-clause-used
returns-clause-used c = used_alone
