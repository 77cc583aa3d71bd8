use Rattle.std.proofs.Common.{ℕ, List, IfOk, ◌≡◌, subst, ap, ◌∙◌}
use Rattle.ubus_table.specs.declared.rows.Subscription.{Subscription}
use Rattle.ubus_table.specs.Subscriptions.{subscribers_of}
use Rattle.ubus_state.proofs.SubscriptionLemmas.{subscribers_in}
use Rattle.ubus_state.proofs.subscription_rows.SubscriptionRows.subscribers_of.Goals as goal

pub returns : goal.returns
returns c =
    subst (λ (found : List ℕ). IfOk c.seconds_of.result (λ numbers. numbers.items ≡ found))
    (subscribers_in c.self.inside.rows.items c.self.inside.by_target c.args.target c.seconds_of.ensures.ordered c.self.invariant.by_target ∙ ap (λ (rows : List Subscription). subscribers_of rows c.args.target) c.self.view_is)
    c.seconds_of.ensures.seconds
