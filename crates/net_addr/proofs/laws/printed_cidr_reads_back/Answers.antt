use Rattle.net_addr.proofs.CidrLemmas.{SpellsCidr-cidr_text}
use Rattle.net_addr.proofs.laws.printed_cidr_reads_back.Goals as goal

pub returns : goal.returns
returns c = SpellsCidr-cidr_text
