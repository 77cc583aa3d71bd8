use Rattle.uci_text.proofs.FaultLemmas.{fault_is_one}
use Rattle.uci_text.proofs.laws.one_fault.Goals as goal

pub returns : goal.returns
returns c = fault_is_one
