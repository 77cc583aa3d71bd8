use Rattle.uci_text.proofs.QuoteLemmas.{quoted_spells, quoted_clean}
use Rattle.uci_text.proofs.quote.quote_into.Goals as goal

pub returns-then-is_err-clause-word : goal.returns-then-is_err-clause-word
returns-then-is_err-clause-word c clean = (quoted_spells _, quoted_clean _ clean)

pub returns-else-is_err-clause-word : goal.returns-else-is_err-clause-word
returns-else-is_err-clause-word c clean = (quoted_spells _, quoted_clean _ clean)
