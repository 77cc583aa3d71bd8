use Rattle.std.proofs.Common.{ap, ◌∙◌}
use Rattle.std.specs.FinSet as set
use Rattle.graph_rules.specs.State.{State}
use Rattle.graph_rules.specs.Wanted.{want_in}
use Rattle.dev_graph.specs.Inside.{known_in}
use Rattle.dev_graph.proofs.WantLemmas.{wanted_is}
use Rattle.dev_graph.proofs.graph.Graph.wanted.Goals as goal

pub returns : goal.returns
returns c =
    c.wanted.ensures
    ∙ ap (λ w. set.contains w c.args.object.now) (wanted_is (known_in c.self.inside.names) c.self.inside.objects c.self.invariant.wishes)
    ∙ ap (λ (s : State). set.contains (want_in s.known) c.args.object.now) c.self.view_is
