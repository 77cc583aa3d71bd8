use Rattle.net_rules.proofs.ReachedLemmas.{reached_kept}
use Rattle.net_rules.proofs.laws.requests_are_the_needs.Goals as goal

pub returns : goal.returns
returns c inputs reached = (reached_kept inputs reached).are
