use Rattle.ubus_table.proofs.RunLemmas.{one_at_once}
use Rattle.ubus_table.proofs.laws.over_at_once.Goals as goal

pub returns : goal.returns
returns c = one_at_once
