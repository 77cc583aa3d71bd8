use Rattle.ubus_acl.proofs.BadLemmas.{first_bad}
use Rattle.ubus_acl.proofs.laws.first_bad_record.Goals as goal

pub returns : goal.returns
returns c = first_bad
