use Rattle.std.proofs.Common.{ℕ, List, [], ◌∷◌, ◌++◌, cond, sym, ap, ◌∙◌, rules}
use Rattle.std.specs.Prelude.{bytes_eq}
use Rattle.net_view.proofs.JoinLemmas.{joining_push}
use Rattle.net_view.proofs.radio_ports.ports_by_bridge.Goals as goal

pub loop-join-init : goal.loop-join-init
loop-join-init c = λ q. search rules

pub loop-join-preserved : goal.loop-join-preserved
loop-join-preserved c = λ q.
    c.in_ok-add_to_group.ensures q
    ∙ ap (λ (z : List (List ℕ)). z ++ cond (bytes_eq c.join-item.result.bridge q) (c.join-item.result.port ∷ []) []) (c.loop-join.invariant q)
    ∙ sym (joining_push q c.args.joins.now c.loop-join.join-index c.join-item.result c.loop-join-test.true c.join-item.is)
