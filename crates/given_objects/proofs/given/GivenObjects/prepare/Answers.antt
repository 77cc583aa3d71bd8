use Rattle.given_objects.proofs.given.GivenObjects.prepare.Goals as goal

pub invariant_of-self : goal.invariant_of-self
invariant_of-self c = record { gifts = c.self.invariant.gifts; order = c.put_in_order.ensures.order; places = c.put_in_order.ensures.places; room = c.put_in_order.ensures.room }

pub returns : goal.returns
returns c = c.self.view_is
