use Rattle.std.proofs.Common.{◌≡◌, ◌≤◌, List, IfOk, sym, ap, subst, ◌∙◌}
use Rattle.std.proofs.lemmas.List.Elements.{All-nil}
use Rattle.graph_rules.specs.State.{Named}
use Rattle.graph_rules.specs.After.{known_of}
use Rattle.graph_counts.specs.Told.{HasFewClaims}
use Rattle.dev_graph.specs.Inside.{known_in}
use Rattle.dev_graph.proofs.graph.names_after.Goals as goal

pub load-requires-clause-few : goal.load-requires-clause-few
load-requires-clause-few c = subst HasFewClaims (sym c.names.ensures.names) c.names.ensures.few

pub load-requires-in-None-clause-few : goal.load-requires-in-None-clause-few
load-requires-in-None-clause-few c = subst HasFewClaims (sym c.new.ensures) (All-nil (λ (n : Named). n.claims ≤ 1024))

pub returns-in-Some : goal.returns-in-Some
returns-in-Some c =
    subst (λ (ns : List Named). IfOk c.load.result (λ names. names ≡ known_of ns c.args.conf.now c.args.plain.now c.args.radio.now))
    (c.names.ensures.names ∙ ap (λ n. (known_in n).names) (sym c.in-Some.is)) c.load.ensures
