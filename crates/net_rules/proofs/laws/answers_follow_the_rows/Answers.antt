use Rattle.net_rules.proofs.DeviceLemmas.{available_follows, link_follows, used_follows}
use Rattle.net_rules.proofs.laws.answers_follow_the_rows.Goals as goal

pub returns-clause-available : goal.returns-clause-available
returns-clause-available c = available_follows

pub returns-clause-link : goal.returns-clause-link
returns-clause-link c = link_follows

pub returns-clause-used : goal.returns-clause-used
returns-clause-used c = used_follows
