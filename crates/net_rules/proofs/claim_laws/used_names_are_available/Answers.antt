use Rattle.net_rules.proofs.AnswerLemmas.{used_available}
use Rattle.net_rules.proofs.claim_laws.used_names_are_available.Goals as goal

pub returns : goal.returns
returns c = used_available
