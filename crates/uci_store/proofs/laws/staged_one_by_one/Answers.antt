use Rattle.uci_store.proofs.BatchLemmas.{one_then_others, first_refused, later_refused}
use Rattle.uci_store.proofs.laws.staged_one_by_one.Goals as goal

pub returns-clause-staged : goal.returns-clause-staged
returns-clause-staged c = one_then_others

pub returns-clause-refused_first : goal.returns-clause-refused_first
returns-clause-refused_first c = first_refused

pub returns-clause-refused_later : goal.returns-clause-refused_later
returns-clause-refused_later c = later_refused
