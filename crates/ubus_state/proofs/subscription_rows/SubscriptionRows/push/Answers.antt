use Rattle.std.proofs.Common.{ℕ, ◌≡◌, ◌++◌, ◌∷◌, List, [], map, true, false, sym, ap, ◌∙◌}
use Rattle.std.specs.BTreeSet.{BTreeSet, contains}
use Rattle.ubus_table.specs.declared.rows.Subscription.{Subscription}
use Rattle.ubus_state.specs.Pairs.{pair_cmp}
use Rattle.ubus_state.specs.SubscriptionRows.{from_pair, to_pair}
use Rattle.ubus_state.proofs.PairLemmas.{has_as, pairs_back, row_pushed, same_keys, updates_at}
use Rattle.ubus_state.proofs.SubscriptionLemmas.{absent_to}
use Rattle.ubus_state.proofs.subscription_rows.SubscriptionRows.push.Goals as goal

pub invariant_of-self-in_default : goal.invariant_of-self-in_default
invariant_of-self-in_default c =
    let rows : List Subscription = c.self.inside.rows.items in
    let to : BTreeSet (ℕ × ℕ) = c.self.inside.by_target in
    let from : BTreeSet (ℕ × ℕ) = c.self.inside.by_subscriber in
    let absent = sym (ap (contains pair_cmp from) c.pair-from.ensures) ∙ c.in_default.ensures.absent in
    record {
      by_target = has_as c.remove.new.self (map to_pair c.reserve.new.self.items) (map to_pair rows) (ap (map to_pair) c.reserve.ensures.items)
          (pairs_back to c.insert.new.self c.remove.new.self (map to_pair rows) (to_pair c.args.subscription) c.self.invariant.by_target
          (absent_to rows from c.args.subscription c.self.invariant.by_subscriber absent)
          (updates_at to c.insert.new.self c.pair-to.result (to_pair c.args.subscription) true c.pair-to.ensures c.in_ok-insert.ensures.updates.0)
          (updates_at c.insert.new.self c.remove.new.self c.pair-to.result (to_pair c.args.subscription) false c.pair-to.ensures c.remove.ensures.updates.0));
      by_subscriber = has_as c.insert-2.new.self (map from_pair c.reserve.new.self.items) (map from_pair rows) (ap (map from_pair) c.reserve.ensures.items)
          (same_keys from c.insert-2.new.self (map from_pair rows) c.in_default.ensures.err c.self.invariant.by_subscriber);
    }

pub invariant_of-self-2 : goal.invariant_of-self-2
invariant_of-self-2 c =
    let rows : List Subscription = c.self.inside.rows.items in
    let later : List Subscription = c.push_reserved.new.self.items in
    let made : later ≡ rows ++ c.args.subscription ∷ [] = c.push_reserved.ensures.items ∙ ap (λ (z : List Subscription). z ++ c.args.subscription ∷ []) c.reserve.ensures.items in
    record {
      by_target = row_pushed to_pair c.self.inside.by_target c.insert.new.self rows later c.args.subscription c.self.invariant.by_target
          (updates_at c.self.inside.by_target c.insert.new.self c.pair-to.result (to_pair c.args.subscription) true c.pair-to.ensures c.in_ok-insert.ensures.updates.0) made;
      by_subscriber = row_pushed from_pair c.self.inside.by_subscriber c.insert-2.new.self rows later c.args.subscription c.self.invariant.by_subscriber
          (updates_at c.self.inside.by_subscriber c.insert-2.new.self c.pair-from.result (from_pair c.args.subscription) true c.pair-from.ensures c.in-Ok.ensures.updates.0) made;
    }
