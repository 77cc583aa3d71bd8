use Rattle.std.proofs.Common.{arith, ◌≡◌}
use Rattle.kern_calls.specs.Due.{due_count}
use Rattle.graph_objects.proofs.SlotLemmas.{viewed}
use Rattle.graph_objects.proofs.objects.DeviceObjects.due.Goals as goal

pub returns-clause-due : goal.returns-clause-due
returns-clause-due c = viewed c.self.inside.slots.entries _ c.self.view_is (λ h w. c.count.result ≡ due_count h w) c.count.ensures.due

pub returns-clause-few : goal.returns-clause-few
returns-clause-few c = omega (arith, c.count.ensures.few, c.self.invariant.room.few)
