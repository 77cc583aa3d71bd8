use Rattle.std.proofs.Common.{ℕ, List, filter, ap, ◌∙◌}
use Rattle.ubus_state.specs.Pairs.{has_first}
use Rattle.ubus_state.proofs.PairLemmas.{pairs_between}
use Rattle.ubus_state.proofs.pairs.pairs_of.Goals as goal

pub returns-clause-pairs : goal.returns-clause-pairs
returns-clause-pairs c =
    let keys : List (ℕ × ℕ) = c.args.pairs.now.keys in
    c.range.ensures.between tt ∙ pairs_between c.from-first.result keys ∙ ap (λ (first : ℕ). filter (has_first first) keys) c.from-first.ensures
