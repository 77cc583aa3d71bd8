use Rattle.std.proofs.Common.{ℕ, ◌==◌, not, ap, ◌∙◌}
use Rattle.std.specs.List.{list_any}
use Rattle.ubus_state.specs.Pairs.{has_first}
use Rattle.ubus_state.proofs.ListLemmas.{list_any_filter}
use Rattle.ubus_state.proofs.pairs.has_pair_but.Goals as goal

pub loop-pair-init : goal.loop-pair-init
loop-pair-init c =
    ap (list_any (λ (pair : ℕ × ℕ). not (pair.1 == c.args.second))) (c.into_iter-pair-iterator.ensures.into_iter_gives ∙ c.pairs_of-pair-items.ensures.pairs)
    ∙ list_any_filter (λ (pair : ℕ × ℕ). not (pair.1 == c.args.second)) (has_first c.args.first) c.args.pairs.now.keys
