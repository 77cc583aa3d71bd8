use Rattle.uci_text.proofs.FirstLemmas as first
use Rattle.uci_text.proofs.laws.commands_or_fault.Goals as goal

pub returns : goal.returns
returns c = first.commands_or_fault
