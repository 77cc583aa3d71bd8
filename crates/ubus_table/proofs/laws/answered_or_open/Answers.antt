use Rattle.ubus_table.proofs.RunLemmas.{one_or_open}
use Rattle.ubus_table.proofs.laws.answered_or_open.Goals as goal

pub returns : goal.returns
returns c = one_or_open
