use Rattle.net_rules.specs.Claims.{uses_by}
use Rattle.net_rules.proofs.MoveLemmas.{count_moves, count_few, count_some}
use Rattle.net_rules.proofs.ClaimLemmas.{claims_are}
use Rattle.net_rules.proofs.claim_laws.claims_are_counted.Goals as goal

pub returns : goal.returns
returns c = record {
  users = λ facts states are name. claims_are facts name states are;
  moves = λ states place old new name is. count_moves (uses_by name) states place old new is;
  few = λ states name. count_few (uses_by name) states;
  some = λ states place st name is uses. count_some (uses_by name) states place st is uses;
}
