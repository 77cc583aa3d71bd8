use Rattle.net_rules.proofs.RefusalLemmas.{device_may, moved_history}
use Rattle.net_rules.proofs.laws.events_that_are_not_refused_may_come.Goals as goal

pub returns-clause-device : goal.returns-clause-device
returns-clause-device c = device_may

pub returns-clause-history : goal.returns-clause-history
returns-clause-history c = moved_history
