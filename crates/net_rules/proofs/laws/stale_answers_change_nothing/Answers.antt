use Rattle.net_rules.proofs.ReachedLemmas.{stale_interface, stale_radio}
use Rattle.net_rules.proofs.laws.stale_answers_change_nothing.Goals as goal

pub returns-clause-interface : goal.returns-clause-interface
returns-clause-interface c = stale_interface

pub returns-clause-radio : goal.returns-clause-radio
returns-clause-radio c = stale_radio
