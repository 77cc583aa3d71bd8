use Rattle.net_addr.proofs.SpellingLemmas.{Spells_unique}
use Rattle.net_addr.proofs.laws.one_address.Goals as goal

pub returns : goal.returns
returns c = Spells_unique
