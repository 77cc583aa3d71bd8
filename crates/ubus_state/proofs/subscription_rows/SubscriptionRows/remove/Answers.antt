use Rattle.std.proofs.Common.{List, false}
use Rattle.ubus_table.specs.declared.rows.Subscription.{Subscription}
use Rattle.ubus_state.specs.SubscriptionRows.{from_pair, to_pair}
use Rattle.ubus_state.proofs.PairLemmas.{updates_at}
use Rattle.ubus_state.proofs.SubscriptionLemmas.{taken_from, taken_to}
use Rattle.ubus_state.proofs.subscription_rows.SubscriptionRows.remove.Goals as goal

pub invariant_of-self : goal.invariant_of-self
invariant_of-self c =
    let rows : List Subscription = c.self.inside.rows.items in
    let later : List Subscription = c.drop_subscription.new.subscriptions.items in
    record {
      by_target = taken_to c.self.inside.by_target c.remove.new.self rows later c.args.gone c.self.invariant.by_target
          (updates_at c.self.inside.by_target c.remove.new.self c.pair-to.result (to_pair c.args.gone) false c.pair-to.ensures c.remove.ensures.updates.0) c.drop_subscription.ensures;
      by_subscriber = taken_from c.self.inside.by_subscriber c.remove-2.new.self rows later c.args.gone c.self.invariant.by_subscriber
          (updates_at c.self.inside.by_subscriber c.remove-2.new.self c.pair-from.result (from_pair c.args.gone) false c.pair-from.ensures c.remove-2.ensures.updates.0) c.drop_subscription.ensures;
    }
