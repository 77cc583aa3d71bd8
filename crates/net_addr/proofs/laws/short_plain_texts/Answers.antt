use Rattle.net_addr.proofs.PrintedLemmas.{All-cidr_text, length-cidr_text}
use Rattle.net_addr.proofs.laws.short_plain_texts.Goals as goal

pub returns-clause-plain : goal.returns-clause-plain
returns-clause-plain c = All-cidr_text

pub returns-clause-short : goal.returns-clause-short
returns-clause-short c = length-cidr_text
