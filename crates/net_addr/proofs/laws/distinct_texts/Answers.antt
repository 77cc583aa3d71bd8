use Rattle.net_addr.proofs.PrintedLemmas.{cidr_text_injective}
use Rattle.net_addr.proofs.laws.distinct_texts.Goals as goal

pub returns : goal.returns
returns c = cidr_text_injective
