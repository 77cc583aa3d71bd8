use Rattle.uci_text.proofs.FirstLemmas.{command_fault_is_one}
use Rattle.uci_text.proofs.laws.one_command_fault.Goals as goal

pub returns : goal.returns
returns c = command_fault_is_one
