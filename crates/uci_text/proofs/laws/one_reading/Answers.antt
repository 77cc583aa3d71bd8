use Rattle.uci_text.proofs.FaultLemmas.{reading_is_one}
use Rattle.uci_text.proofs.laws.one_reading.Goals as goal

pub returns : goal.returns
returns c = reading_is_one
