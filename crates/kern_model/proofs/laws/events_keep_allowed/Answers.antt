use Rattle.kern_model.proofs.EventLemmas.{events_keep}
use Rattle.kern_model.proofs.laws.events_keep_allowed.Goals as goal

pub returns : goal.returns
returns c = events_keep
