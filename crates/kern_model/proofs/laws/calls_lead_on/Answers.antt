use Rattle.kern_model.proofs.LeadLemmas.{admitted, reached}
use Rattle.kern_model.proofs.laws.calls_lead_on.Goals as goal

pub returns-clause-admitted : goal.returns-clause-admitted
returns-clause-admitted c = admitted

pub returns-clause-reached : goal.returns-clause-reached
returns-clause-reached c = reached
