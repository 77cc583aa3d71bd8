use Rattle.uci_text.proofs.FaultLemmas.{no_reading}
use Rattle.uci_text.proofs.laws.no_reading_with_fault.Goals as goal

pub returns : goal.returns
returns c = no_reading
