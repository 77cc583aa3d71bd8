use Rattle.net_rules.proofs.EventLemmas.{inputs_then, wanted_then, told_then}
use Rattle.net_rules.proofs.reach_laws.devices_apart_change_nothing_else.Goals as goal

pub returns-clause-inputs : goal.returns-clause-inputs
returns-clause-inputs c = inputs_then

pub returns-clause-wanted : goal.returns-clause-wanted
returns-clause-wanted c = wanted_then

pub returns-clause-told : goal.returns-clause-told
returns-clause-told c = told_then
