use Rattle.std.proofs.Common.{ap, ◌∙◌}
use Rattle.net_rules.specs.Refusal.{is_held_link}
use Rattle.graph_rules.specs.State.{State}
use Rattle.dev_graph.proofs.graph.Graph.holds_link.Goals as goal

pub returns : goal.returns
returns c = c.holds_link.ensures ∙ ap (λ (s : State). is_held_link s.held c.args.name.now) c.self.view_is
