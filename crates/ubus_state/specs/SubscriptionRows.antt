-- How subscriptions are kept, and found.
use Rattle.std.specs.Prelude.{ℕ, List, map}
use Rattle.ubus_table.specs.declared.rows.Subscription.{Subscription}
use Rattle.ubus_state.specs.declared.subscription_rows.SubscriptionRows.TheInside.{Inside}
use Rattle.ubus_state.specs.Pairs.{HasPairs}

-- the subscriptions, as they came
abbrev pub subscriptions_in : Inside → List Subscription
subscriptions_in kept = kept.rows.items

-- the target first
abbrev pub to_pair : Subscription → ℕ × ℕ
to_pair subscription = (subscription.target, subscription.subscriber)

-- the subscriber first
abbrev pub from_pair : Subscription → ℕ × ℕ
from_pair subscription = (subscription.subscriber, subscription.target)

-- both sets have the subscriptions
pub record HasBoth (kept : Inside) : Type 0 where
  pub by_target : HasPairs kept.by_target (map to_pair kept.rows.items)
  pub by_subscriber : HasPairs kept.by_subscriber (map from_pair kept.rows.items)
