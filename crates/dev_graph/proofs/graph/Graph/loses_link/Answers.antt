use Rattle.std.proofs.Common.{ap, ◌∙◌}
use Rattle.kern_model.specs.Touched as touched
use Rattle.graph_objects.specs.Marks.{held_of}
use Rattle.graph_rules.specs.State.{State}
use Rattle.graph_rules.specs.Wanted.{want_in}
use Rattle.dev_graph.specs.Inside.{known_in}
use Rattle.dev_graph.proofs.WantLemmas.{wanted_is}
use Rattle.dev_graph.proofs.graph.Graph.loses_link.Goals as goal

pub returns : goal.returns
returns c =
    c.loses_link.ensures
    ∙ ap (λ w. touched.loses_link (held_of c.self.inside.objects) w c.args.name.now) (wanted_is (known_in c.self.inside.names) c.self.inside.objects c.self.invariant.wishes)
    ∙ ap (λ (s : State). touched.loses_link s.held (want_in s.known) c.args.name.now) c.self.view_is
