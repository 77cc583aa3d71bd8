use Rattle.std.proofs.Common.{◌≡◌}
use Rattle.std.specs.FinSet as set
use Rattle.graph_objects.proofs.SlotLemmas.{viewed}
use Rattle.graph_objects.proofs.objects.DeviceObjects.wanted.Goals as goal

pub returns : goal.returns
returns c = viewed c.self.inside.slots.entries _ c.self.view_is (λ h w. c.has.result ≡ set.contains w c.args.object.now) c.has.ensures
