use Rattle.uci_delta.proofs.ValidLemmas.{applied_valid}
use Rattle.uci_delta.proofs.laws.valid_stays_valid.Goals as goal

pub returns : goal.returns
returns c = applied_valid
