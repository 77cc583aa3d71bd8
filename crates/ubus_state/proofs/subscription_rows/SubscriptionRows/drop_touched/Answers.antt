use Rattle.std.proofs.Common.{rules, ℕ, ◌==◌, List, Bool, not}
use Rattle.std.specs.Prelude.{◌||◌}
use Rattle.std.proofs.lemmas.Fn.{filter_same}
use Rattle.ubus_table.specs.declared.rows.Subscription.{Subscription}
use Rattle.ubus_state.specs.SubscriptionRows.{from_pair, to_pair}
use Rattle.ubus_state.proofs.SubscriptionLemmas.{left_of}
use Rattle.ubus_state.proofs.subscription_rows.SubscriptionRows.drop_touched.Goals as goal

pub invariant_of-self : goal.invariant_of-self
invariant_of-self c =
    let rows : List Subscription = c.self.inside.rows.items in
    let later : List Subscription = c.drop_touching.new.subscriptions.items in
    let to : ℕ × ℕ → Bool = λ pair. not (pair.1 == c.args.number || pair.0 == c.args.number) in
    let from : ℕ × ℕ → Bool = λ pair. not (pair.0 == c.args.number || pair.1 == c.args.number) in
    record {
      by_target = left_of to_pair to c.self.inside.by_target c.retain.new.self rows later c.self.invariant.by_target
          (filter_same _ to _ (λ x b f' k. search rules) _ _ c.retain.ensures.filtered) c.drop_touching.ensures;
      by_subscriber = left_of from_pair from c.self.inside.by_subscriber c.retain-2.new.self rows later c.self.invariant.by_subscriber
          (filter_same _ from _ (λ x b f' k. search rules) _ _ c.retain-2.ensures.filtered) c.drop_touching.ensures;
    }
