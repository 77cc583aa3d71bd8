use Rattle.net_rules.proofs.DownLemmas.{down_of_test, down_test}
use Rattle.net_rules.proofs.laws.what_vlans_lead_to_is_tested.Goals as goal

pub returns : goal.returns
returns c rows name base = (down_of_test rows name base, down_test rows name base)
