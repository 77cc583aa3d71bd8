use Rattle.std.proofs.Common.{sym, ◌∙◌}
use Rattle.ubus_table.specs.Objects.{touches}
use Rattle.ubus_state.proofs.SubscriptionLemmas.{none_touches}
use Rattle.ubus_state.proofs.subscription_rows.SubscriptionRows.drop_touching.Goals as goal

pub returns-else-is_touched : goal.returns-else-is_touched
returns-else-is_touched c = none_touches (touches c.args.number) c.args.self.now (sym c.is_touched.ensures ∙ c.if-is_touched.false)
