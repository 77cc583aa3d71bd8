use Rattle.std.proofs.Common.{ap, ◌∙◌}
use Rattle.std.specs.FinSet as set
use Rattle.graph_objects.specs.Marks.{Marks, held_of}
use Rattle.graph_objects.proofs.objects.DeviceObjects.held.Goals as goal

pub returns : goal.returns
returns c = c.has.ensures ∙ ap (λ (m : Marks). set.contains (held_of m) c.args.object.now) c.self.view_is
