use Rattle.std.proofs.Common.{◌≡◌}
use Rattle.kern_model.specs.Touched as touched
use Rattle.graph_objects.proofs.SlotLemmas.{viewed}
use Rattle.graph_objects.proofs.objects.DeviceObjects.loses_link.Goals as goal

pub returns : goal.returns
returns c = viewed c.self.inside.slots.entries _ c.self.view_is (λ h w. c.loses_link.result ≡ touched.loses_link h w c.args.name.now) c.loses_link.ensures
