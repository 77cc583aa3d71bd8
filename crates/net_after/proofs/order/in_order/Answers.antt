use Rattle.std.proofs.Common.{ℕ, List, ◌++◌, map, ap, ◌∙◌}
use Rattle.uci_tree.specs.declared.package.Opt.{Opt}
use Rattle.net_rules.specs.Need.{in_order}
use Rattle.net_after.proofs.OrderLemmas.{options_back}
use Rattle.net_after.proofs.order.in_order.Goals as goal

pub loop-option-init : goal.loop-option-init
loop-option-init c =
    ap (λ (z : List Opt). z ++ c.into_iter-option-iterator.result) c.new-ordered.ensures
    ∙ c.into_iter-option-iterator.ensures.into_iter_gives
    ∙ c.into_values-option-items.ensures.rest
    ∙ ap (map (λ (e : List ℕ × Opt). e.1)) c.in_ok-by_name.ensures.entries
    ∙ options_back (in_order c.args.options.now)
