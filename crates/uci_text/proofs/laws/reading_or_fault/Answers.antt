use Rattle.uci_text.proofs.TotalLemmas as total
use Rattle.uci_text.proofs.laws.reading_or_fault.Goals as goal

pub returns : goal.returns
returns c = total.reading_or_fault
