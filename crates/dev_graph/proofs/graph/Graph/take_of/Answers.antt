use Rattle.std.proofs.Common.{ap, ◌∙◌}
use Rattle.kern_calls.specs.Calls.{own_take}
use Rattle.graph_rules.specs.State.{State, devices_in}
use Rattle.dev_graph.proofs.graph.Graph.take_of.Goals as goal

pub own_take-requires : goal.own_take-requires
own_take-requires c s is = (c.self.invariant.whole s is).names

pub returns : goal.returns
returns c = c.own_take.ensures ∙ ap (λ (t : State). own_take (devices_in t.known) c.args.object) c.self.view_is
