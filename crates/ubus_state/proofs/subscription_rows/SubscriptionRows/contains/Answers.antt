use Rattle.std.proofs.Common.{List, ap, ◌∙◌}
use Rattle.std.specs.BTreeSet.{contains}
use Rattle.ubus_table.specs.declared.rows.Subscription.{Subscription}
use Rattle.ubus_table.specs.Subscriptions.{has_subscription}
use Rattle.ubus_state.specs.Pairs.{pair_cmp}
use Rattle.ubus_state.specs.SubscriptionRows.{from_pair}
use Rattle.ubus_state.proofs.SubscriptionLemmas.{has_from}
use Rattle.ubus_state.proofs.subscription_rows.SubscriptionRows.contains.Goals as goal

pub returns : goal.returns
returns c =
    c.contains.ensures
    ∙ ap (contains pair_cmp c.self.inside.by_subscriber) c.pair-from.ensures
    ∙ c.self.invariant.by_subscriber (from_pair c.args.subscription)
    ∙ has_from c.self.inside.rows.items c.args.subscription
    ∙ ap (λ (rows : List Subscription). has_subscription rows c.args.subscription) c.self.view_is
