use Rattle.std.proofs.Common.{subst}
use Rattle.given_objects.specs.Gifts.{AreGifts}
use Rattle.given_objects.proofs.given.GivenObjects.len.Goals as goal

pub returns-clause-gifts : goal.returns-clause-gifts
returns-clause-gifts c = subst AreGifts c.self.view_is c.self.invariant.gifts
