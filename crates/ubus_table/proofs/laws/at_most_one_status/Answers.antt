use Rattle.ubus_table.proofs.RunLemmas.{one_at_most}
use Rattle.ubus_table.proofs.laws.at_most_one_status.Goals as goal

pub returns : goal.returns
returns c = one_at_most
