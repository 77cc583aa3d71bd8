use Rattle.std.proofs.Common.{◌≡◌, ◌==◌, List, Bool, true, sym, ap, ◌∙◌}
use Rattle.std.specs.Prelude.{◌||◌}
use Rattle.std.specs.List.{list_any}
use Rattle.ubus_table.specs.declared.rows.Subscription.{Subscription}
use Rattle.ubus_table.specs.Objects.{touches}
use Rattle.ubus_state.specs.Pairs.{has_first}
use Rattle.ubus_state.specs.SubscriptionRows.{from_pair, to_pair}
use Rattle.ubus_state.proofs.PairLemmas.{any_row}
use Rattle.ubus_state.proofs.SubscriptionLemmas.{any_either}
use Rattle.ubus_state.proofs.subscription_rows.SubscriptionRows.is_touched.Goals as goal

pub returns-then-has_pair : goal.returns-then-has_pair
returns-then-has_pair c =
    let rows : List Subscription = c.self.inside.rows.items in
    let by : Subscription → Bool = λ s. s.subscriber == c.args.number in
    let to : Subscription → Bool = λ s. s.target == c.args.number in
    let there : list_any by rows ≡ true = sym (any_row from_pair (has_first c.args.number) c.self.inside.by_subscriber rows c.self.invariant.by_subscriber) ∙ sym c.has_pair.ensures ∙ c.if-has_pair.true in
    c.if-has_pair.true ∙ sym (ap (λ (b : Bool). b || list_any to rows) there) ∙ any_either by to rows ∙ ap (list_any (touches c.args.number)) c.self.view_is

pub returns-else-has_pair : goal.returns-else-has_pair
returns-else-has_pair c =
    let rows : List Subscription = c.self.inside.rows.items in
    let by : Subscription → Bool = λ s. s.subscriber == c.args.number in
    let to : Subscription → Bool = λ s. s.target == c.args.number in
    let none = sym (any_row from_pair (has_first c.args.number) c.self.inside.by_subscriber rows c.self.invariant.by_subscriber) ∙ sym c.has_pair.ensures ∙ c.if-has_pair.false in
    c.has_pair-else-has_pair.ensures
    ∙ any_row to_pair (has_first c.args.number) c.self.inside.by_target rows c.self.invariant.by_target
    ∙ sym (ap (λ (b : Bool). b || list_any to rows) none)
    ∙ any_either by to rows
    ∙ ap (list_any (touches c.args.number)) c.self.view_is
