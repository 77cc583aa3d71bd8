use Rattle.std.proofs.Common.{arith, length, sym, ap, ◌∙◌}
use Rattle.graph_rules.specs.State.{State}
use Rattle.graph_rules.specs.Answers.{link_in}
use Rattle.graph_counts.specs.Counted.{name_of}
use Rattle.dev_graph.specs.Inside.{known_in}
use Rattle.dev_graph.proofs.graph.Graph.link.Goals as goal

pub link-requires : goal.link-requires
link-requires c = omega (arith, c.requires, ap (λ (s : State). length s.known.names) c.self.view_is, ap (λ n. length (known_in n).names) c.in-Some.is)

pub returns-in-Some : goal.returns-in-Some
returns-in-Some c =
    c.link.ensures
    ∙ ap (λ n. link_in (known_in n) (name_of (known_in n) c.args.id.0)) (sym c.in-Some.is)
    ∙ ap (λ (s : State). link_in s.known (name_of s.known c.args.id.0)) c.self.view_is

pub returns-in-None : goal.returns-in-None
returns-in-None c = absurd (omega (arith, c.requires, ap (λ (s : State). length s.known.names) c.self.view_is, ap (λ n. length (known_in n).names) c.in-None.is))
