use Rattle.std.proofs.Common.{arith, List, length, sym, ap, ◌∙◌}
use Rattle.graph_rules.specs.State.{Named, State}
use Rattle.graph_rules.specs.After.{name_at}
use Rattle.dev_graph.specs.Inside.{known_in}
use Rattle.dev_graph.proofs.graph.Graph.claims.Goals as goal

pub claims-requires : goal.claims-requires
claims-requires c =
    let all = ap length c.names.ensures.names in
    omega (arith, c.requires, all, ap (λ (s : State). length s.known.names) c.self.view_is, ap (λ n. length (known_in n).names) c.in-Some.is)

pub returns-in-Some : goal.returns-in-Some
returns-in-Some c =
    c.claims.ensures
    ∙ ap (λ (ns : List Named). (name_at ns c.args.id.0).claims) c.names.ensures.names
    ∙ ap (λ n. (name_at (known_in n).names c.args.id.0).claims) (sym c.in-Some.is)
    ∙ ap (λ (s : State). (name_at s.known.names c.args.id.0).claims) c.self.view_is

pub returns-in-None : goal.returns-in-None
returns-in-None c = absurd (omega (arith, c.requires, ap (λ (s : State). length s.known.names) c.self.view_is, ap (λ n. length (known_in n).names) c.in-None.is))
