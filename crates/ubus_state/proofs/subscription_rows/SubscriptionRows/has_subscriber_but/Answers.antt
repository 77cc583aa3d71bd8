use Rattle.std.proofs.Common.{ℕ, ◌==◌, not, ap, ◌∙◌}
use Rattle.std.specs.Prelude.{◌&&◌}
use Rattle.std.specs.List.{list_any}
use Rattle.ubus_table.specs.declared.rows.Subscription.{Subscription}
use Rattle.ubus_state.specs.Pairs.{has_first}
use Rattle.ubus_state.specs.SubscriptionRows.{to_pair}
use Rattle.ubus_state.proofs.PairLemmas.{any_row}
use Rattle.ubus_state.proofs.subscription_rows.SubscriptionRows.has_subscriber_but.Goals as goal

pub returns : goal.returns
returns c =
    c.has_pair_but.ensures
    ∙ any_row to_pair (λ (pair : ℕ × ℕ). has_first c.args.target pair && not (pair.1 == c.args.number)) c.self.inside.by_target c.self.inside.rows.items c.self.invariant.by_target
    ∙ ap (list_any (λ (s : Subscription). s.target == c.args.target && not (s.subscriber == c.args.number))) c.self.view_is
