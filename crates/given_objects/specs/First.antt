-- The gift that is taken before the calls of devices, and the one that is put behind them.
use Rattle.std.specs.Prelude.{◌≡◌, Contains, Bool, true, ◌&&◌, ◌||◌, not, replicate}
use Rattle.std.specs.declared.cmp.Ordering.TheVariants.{Less}
use Rattle.std.specs.FinSet as set
use Rattle.kern_model.specs.declared.object.Object.{Object}
use Rattle.kern_model.specs.declared.object.Call.{Call}
use Rattle.kern_model.specs.declared.object.Call.TheVariants.{Take}
use Rattle.kern_model.specs.ObjectOrder.{Objects}
use Rattle.kern_model.specs.Kernel.{name_of}
use Rattle.kern_model.specs.Touched as touched
use Rattle.kern_model.specs.CallOrder.{call_cmp}
use Rattle.given_objects.specs.declared.gift.Gift.{Gift}
use Rattle.given_objects.specs.Gifts.{Gifts, is_given}

-- a gift that is held is taken where nobody gives it, or where its name loses its link
abbrev pub is_take_due : Gift → Bool
is_take_due g = g.held && (not (is_given g) || g.loses_link)

-- a gift that is given is put where it is not held
abbrev pub is_put_due : Gift → Bool
is_put_due g = is_given g && not g.held

-- the take of an address or a route, of which own values are no part
abbrev pub plain_take : Object → Call
plain_take o = Take o 0 (record { 0 = replicate 6 0 })

-- the object of a gift that a test tells, and no call of another that it tells comes before its call
pub record IsFirstGift (test : Gift → Bool) (call : Object → Call) (gs : Gifts) (o : Object) : Type 0 where
  pub gift : Gift
  pub member : Contains gs gift
  pub is : gift.object ≡ o
  pub due : test gift ≡ true
  pub first : (other : Gift) → Contains gs other → test other ≡ true
      → call_cmp set.empty set.empty (call other.object) (call o) ≡ Less → ⊥

-- a test tells no gift
abbrev pub NoneDue : (Gift → Bool) → Gifts → Type 0
NoneDue test gs = (g : Gift) → Contains gs g → test g ≡ true → ⊥

-- each gift that is held and given knows whether its name loses its link
abbrev pub KnowLostLinks : Objects → Objects → Gifts → Type 0
KnowLostLinks held wanted gs =
    (g : Gift) → Contains gs g → g.held ≡ true → is_given g ≡ true
    → g.loses_link ≡ touched.loses_link held wanted (name_of g.object)
