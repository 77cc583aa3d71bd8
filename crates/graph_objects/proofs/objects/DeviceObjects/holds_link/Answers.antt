use Rattle.std.proofs.Common.{◌≡◌}
use Rattle.std.specs.FinSet as set
use Rattle.std.specs.List.{list_any}
use Rattle.kern_model.specs.AdmissionTest.{is_link_of}
use Rattle.graph_objects.proofs.SlotLemmas.{viewed}
use Rattle.graph_objects.proofs.objects.DeviceObjects.holds_link.Goals as goal

pub returns : goal.returns
returns c = viewed c.self.inside.slots.entries _ c.self.view_is (λ h w. c.holds_link.result ≡ list_any (is_link_of c.args.name.now) (set.items h)) c.holds_link.ensures
