use Rattle.std.proofs.Common.{not, ap, ◌∙◌}
use Rattle.ubus_state.proofs.SubscriptionLemmas.{alone_without}
use Rattle.ubus_state.proofs.subscription_rows.SubscriptionRows.is_alone_without.Goals as goal

pub returns : goal.returns
returns c = ap not c.has_subscriber_but.ensures ∙ alone_without c.args.self.now c.args.subscription
