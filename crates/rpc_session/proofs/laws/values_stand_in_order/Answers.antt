use Rattle.rpc_session.proofs.NameLemmas.{names_stand, lasts_stand}
use Rattle.rpc_session.proofs.laws.values_stand_in_order.Goals as goal

pub returns-clause-names : goal.returns-clause-names
returns-clause-names c attrs = names_stand attrs

pub returns-clause-lasts : goal.returns-clause-lasts
returns-clause-lasts c attrs name = lasts_stand attrs name
