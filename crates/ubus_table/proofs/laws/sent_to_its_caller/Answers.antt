use Rattle.ubus_table.proofs.RunLemmas.{addressed_all}
use Rattle.ubus_table.proofs.laws.sent_to_its_caller.Goals as goal

pub returns : goal.returns
returns c = addressed_all
