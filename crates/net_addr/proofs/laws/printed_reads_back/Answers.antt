use Rattle.net_addr.proofs.SpellingLemmas.{Spells-addr_text}
use Rattle.net_addr.proofs.laws.printed_reads_back.Goals as goal

pub returns : goal.returns
returns c = Spells-addr_text
