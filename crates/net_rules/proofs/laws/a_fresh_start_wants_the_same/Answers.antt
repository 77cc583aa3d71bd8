use Rattle.std.proofs.Common.{ap}
use Rattle.net_rules.specs.Want.{want}
use Rattle.net_rules.proofs.FreshLemmas.{fresh_facts}
use Rattle.net_rules.proofs.laws.a_fresh_start_wants_the_same.Goals as goal

pub returns-clause-facts : goal.returns-clause-facts
returns-clause-facts c = fresh_facts

pub returns-clause-want : goal.returns-clause-want
returns-clause-want c inputs reached = ap want (fresh_facts inputs reached)
