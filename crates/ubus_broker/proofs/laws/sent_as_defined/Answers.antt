use Rattle.ubus_broker.proofs.RanLemmas.{sent_alike}
use Rattle.ubus_broker.proofs.laws.sent_as_defined.Goals as goal

pub returns : goal.returns
returns c = sent_alike c.places_change_nothing.ensures
