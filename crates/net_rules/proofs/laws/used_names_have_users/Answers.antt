use Rattle.net_rules.proofs.UserLemmas.{users_of_used, used_of_users}
use Rattle.net_rules.proofs.laws.used_names_have_users.Goals as goal

pub returns : goal.returns
returns c facts sound name = (users_of_used facts sound name, used_of_users facts sound name)
