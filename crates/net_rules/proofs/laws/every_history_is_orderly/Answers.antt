use Rattle.net_rules.proofs.HistoryLemmas.{orderly, history_admits, history_reaches, history_as_fresh}
use Rattle.net_rules.proofs.laws.every_history_is_orderly.Goals as goal

pub returns-clause-kept : goal.returns-clause-kept
returns-clause-kept c = orderly

pub returns-clause-admitted : goal.returns-clause-admitted
returns-clause-admitted c = history_admits

pub returns-clause-reached : goal.returns-clause-reached
returns-clause-reached c = history_reaches

pub returns-clause-fresh : goal.returns-clause-fresh
returns-clause-fresh c = history_as_fresh
