use Rattle.std.proofs.Common.{IfSome, IfNone, subst}
use Rattle.given_objects.specs.declared.first.Turn.TheVariants.{Puts}
use Rattle.given_objects.specs.Gifts.{Gifts}
use Rattle.given_objects.specs.First.{IsFirstGift, NoneDue}
use Rattle.given_objects.specs.Turns.{is_due, call_of}
use Rattle.given_objects.proofs.given.GivenObjects.first_put.Goals as goal

pub last_due-requires-clause-gifts : goal.last_due-requires-clause-gifts
last_due-requires-clause-gifts c = c.self.invariant.gifts

pub returns-then-self-clause-some : goal.returns-then-self-clause-some
returns-then-self-clause-some c = subst (λ (gs : Gifts). IfSome c.last_due.result (IsFirstGift (is_due Puts) (call_of Puts) gs)) c.self.view_is c.last_due.ensures.some

pub returns-then-self-clause-none : goal.returns-then-self-clause-none
returns-then-self-clause-none c = subst (λ (gs : Gifts). IfNone c.last_due.result (NoneDue (is_due Puts) gs)) c.self.view_is c.last_due.ensures.none
