use Rattle.std.proofs.Common.{sym, ap, ◌∙◌}
use Rattle.graph_rules.specs.State.{State, place_among}
use Rattle.dev_graph.specs.Inside.{known_in}
use Rattle.dev_graph.proofs.graph.Graph.find.Goals as goal

pub returns-in-Some : goal.returns-in-Some
returns-in-Some c =
    c.find.ensures
    ∙ ap (λ n. place_among (known_in n).names c.args.name.now) (sym c.in-Some.is)
    ∙ ap (λ (s : State). place_among s.known.names c.args.name.now) c.self.view_is

pub returns-in-None : goal.returns-in-None
returns-in-None c =
    ap (λ n. place_among (known_in n).names c.args.name.now) (sym c.in-None.is)
    ∙ ap (λ (s : State). place_among s.known.names c.args.name.now) c.self.view_is
