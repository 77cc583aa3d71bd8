use Rattle.std.proofs.Common.{ℕ, List, ◌++◌, map, ap, ◌∙◌}
use Rattle.ubus_state.proofs.pairs.seconds_of.Goals as goal

pub loop-pair-init : goal.loop-pair-init
loop-pair-init c =
    ap (λ (ns : List ℕ). ns ++ map (λ (pair : ℕ × ℕ). pair.1) c.into_iter-pair-iterator.result) c.new-numbers.ensures.items
    ∙ ap (map (λ (pair : ℕ × ℕ). pair.1)) (c.into_iter-pair-iterator.ensures.into_iter_gives ∙ c.pairs_of-pair-items.ensures.pairs)
