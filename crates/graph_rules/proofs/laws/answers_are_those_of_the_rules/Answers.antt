use Rattle.graph_rules.proofs.AgreeLemmas.{available_same, link_same, used_same, users_same}
use Rattle.graph_rules.proofs.laws.answers_are_those_of_the_rules.Goals as goal

pub returns-clause-available : goal.returns-clause-available
returns-clause-available c = available_same

pub returns-clause-link : goal.returns-clause-link
returns-clause-link c = link_same

pub returns-clause-used : goal.returns-clause-used
returns-clause-used c = used_same

pub returns-clause-users : goal.returns-clause-users
returns-clause-users c = users_same
