use Rattle.net_rules.proofs.NumberLemmas.{reached_numbered, next_rises, next_few}
use Rattle.net_rules.proofs.laws.no_number_is_given_twice.Goals as goal

pub returns-clause-numbered : goal.returns-clause-numbered
returns-clause-numbered c = reached_numbered

pub returns-clause-rises : goal.returns-clause-rises
returns-clause-rises c = next_rises

pub returns-clause-few : goal.returns-clause-few
returns-clause-few c = next_few
