use Rattle.net_addr.proofs.PrintedLemmas.{All-v4_cidr_text, length-v4_cidr_text}
use Rattle.net_addr.proofs.laws.short_plain_ipv4_texts.Goals as goal

pub returns-clause-plain : goal.returns-clause-plain
returns-clause-plain c = All-v4_cidr_text

pub returns-clause-short : goal.returns-clause-short
returns-clause-short c = length-v4_cidr_text
