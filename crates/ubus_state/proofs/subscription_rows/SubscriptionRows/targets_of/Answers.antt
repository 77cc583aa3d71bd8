use Rattle.std.proofs.Common.{ℕ, List, IfOk, ◌≡◌, subst, ap, ◌∙◌}
use Rattle.ubus_table.specs.declared.rows.Subscription.{Subscription}
use Rattle.ubus_table.specs.Subscriptions.{targets_of}
use Rattle.ubus_state.proofs.SubscriptionLemmas.{targets_in}
use Rattle.ubus_state.proofs.subscription_rows.SubscriptionRows.targets_of.Goals as goal

pub returns : goal.returns
returns c =
    subst (λ (found : List ℕ). IfOk c.seconds_of.result (λ numbers. numbers.items ≡ found))
    (targets_in c.self.inside.rows.items c.self.inside.by_subscriber c.args.subscriber c.seconds_of.ensures.ordered c.self.invariant.by_subscriber ∙ ap (λ (rows : List Subscription). targets_of rows c.args.subscriber) c.self.view_is)
    c.seconds_of.ensures.seconds
