use Rattle.std.proofs.Common.{List, not, ap, ◌∙◌}
use Rattle.ubus_table.specs.declared.rows.Subscription.{Subscription}
use Rattle.ubus_table.specs.Subscriptions.{is_alone}
use Rattle.ubus_state.specs.Pairs.{has_first}
use Rattle.ubus_state.specs.SubscriptionRows.{to_pair}
use Rattle.ubus_state.proofs.PairLemmas.{any_row}
use Rattle.ubus_state.proofs.subscription_rows.SubscriptionRows.is_alone.Goals as goal

pub returns : goal.returns
returns c =
    ap not (c.has_pair.ensures ∙ any_row to_pair (has_first c.args.target) c.self.inside.by_target c.self.inside.rows.items c.self.invariant.by_target)
    ∙ ap (λ (rows : List Subscription). is_alone rows c.args.target) c.self.view_is
