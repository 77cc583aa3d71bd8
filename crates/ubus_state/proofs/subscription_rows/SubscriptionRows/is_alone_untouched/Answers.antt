use Rattle.std.proofs.Common.{not, ap, ◌∙◌}
use Rattle.ubus_state.proofs.SubscriptionLemmas.{alone_itself, alone_untouched}
use Rattle.ubus_state.proofs.subscription_rows.SubscriptionRows.is_alone_untouched.Goals as goal

pub returns-then-target-number : goal.returns-then-target-number
returns-then-target-number c = alone_itself c.args.self.now c.args.number c.args.target c.if-target-number.true

pub returns-else-target-number : goal.returns-else-target-number
returns-else-target-number c = ap not c.has_subscriber_but.ensures ∙ alone_untouched c.args.self.now c.args.number c.args.target c.if-target-number.false
