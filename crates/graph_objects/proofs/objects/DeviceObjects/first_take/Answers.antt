use Rattle.std.proofs.Common.{◌≡◌, IfSome, IfNone, true}
use Rattle.kern_model.specs.declared.object.Object.{Object}
use Rattle.graph_objects.specs.declared.turn.Turn.TheVariants.{Takes}
use Rattle.graph_objects.specs.Turns.{IsFirst, is_due}
use Rattle.graph_objects.proofs.SlotLemmas.{viewed}
use Rattle.graph_objects.proofs.objects.DeviceObjects.first_take.Goals as goal

pub returns-clause-some : goal.returns-clause-some
returns-clause-some c = viewed c.self.inside.slots.entries _ c.self.view_is (λ h w. IfSome c.first_of.result (IsFirst Takes h w)) c.first_of.ensures.some

pub returns-clause-none : goal.returns-clause-none
returns-clause-none c = viewed c.self.inside.slots.entries _ c.self.view_is (λ h w. IfNone c.first_of.result ((o : Object) → is_due Takes h w o ≡ true → ⊥)) c.first_of.ensures.none
