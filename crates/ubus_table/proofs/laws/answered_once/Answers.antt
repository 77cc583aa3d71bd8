use Rattle.ubus_table.proofs.RunLemmas.{one_at_end}
use Rattle.ubus_table.proofs.laws.answered_once.Goals as goal

pub returns : goal.returns
returns c = one_at_end
