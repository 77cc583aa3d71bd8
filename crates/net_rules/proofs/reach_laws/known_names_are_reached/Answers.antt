use Rattle.net_rules.proofs.KnownLemmas.{known_reached}
use Rattle.net_rules.proofs.reach_laws.known_names_are_reached.Goals as goal

pub returns : goal.returns
returns c = known_reached
