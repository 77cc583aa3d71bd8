use Rattle.kern_model.proofs.KeepLemmas.{calls_keep, all_keep}
use Rattle.kern_model.proofs.laws.admitted_calls_keep_allowed.Goals as goal

pub returns-clause-one : goal.returns-clause-one
returns-clause-one c = calls_keep

pub returns-clause-all : goal.returns-clause-all
returns-clause-all c = all_keep
