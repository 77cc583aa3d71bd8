use Rattle.graph_objects.proofs.objects.DeviceObjects.prepare.Goals as goal

pub invariant_of-self : goal.invariant_of-self
invariant_of-self c = record { slots = c.self.invariant.slots; marked = c.self.invariant.marked; listed = c.self.invariant.listed; order = c.put_in_order.ensures.order; room = c.put_in_order.ensures.room }

pub returns : goal.returns
returns c = c.self.view_is
