use Rattle.std.proofs.Common.{ap, ◌∙◌}
use Rattle.kern_calls.specs.Due.{due_count}
use Rattle.graph_objects.specs.Marks.{held_of}
use Rattle.graph_rules.specs.State.{State}
use Rattle.graph_rules.specs.Wanted.{want_in}
use Rattle.dev_graph.specs.Inside.{known_in}
use Rattle.dev_graph.proofs.WantLemmas.{wanted_is}
use Rattle.dev_graph.proofs.graph.Graph.due.Goals as goal

pub returns-clause-due : goal.returns-clause-due
returns-clause-due c =
    c.due.ensures.due
    ∙ ap (λ w. due_count (held_of c.self.inside.objects) w) (wanted_is (known_in c.self.inside.names) c.self.inside.objects c.self.invariant.wishes)
    ∙ ap (λ (s : State). due_count s.held (want_in s.known)) c.self.view_is
