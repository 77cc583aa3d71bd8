use Rattle.net_modern.proofs.ValidLemmas as valid
use Rattle.net_modern.proofs.laws.stays_valid.Goals as goal

pub returns : goal.returns
returns c = valid.stays_valid
