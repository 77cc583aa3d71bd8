use Rattle.net_rules.proofs.NeedLemmas.{same_need}
use Rattle.net_rules.proofs.laws.no_answer_changes_a_need.Goals as goal

pub returns : goal.returns
returns c = same_need
