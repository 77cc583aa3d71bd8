-- Gifts: addresses and routes with how often each is given, and whether it is held.
use Rattle.std.specs.Prelude.{ℕ, ◌≡◌, List, map, filter, Contains, Option, is_some, Bool, true, nat_lt}
use Rattle.std.specs.List.{find}
use Rattle.std.specs.Option.{option_map_or}
use Rattle.std.specs.Ordering.{eq_by_cmp}
use Rattle.plane_words.specs.Distinct.{AreDistinct}
use Rattle.kern_model.specs.declared.object.Object.{Object}
use Rattle.kern_model.specs.ObjectOrder.{Objects, object_cmp, set_of}
use Rattle.kern_model.specs.Line.{IsPrintable}
use Rattle.kern_calls.specs.Upper.{is_upper}
use Rattle.given_objects.specs.declared.gift.Gift.{Gift}

abbrev pub Gifts : Type 0
Gifts = List Gift

-- a gift is of an object
abbrev pub is_of : Object → Gift → Bool
is_of o g = eq_by_cmp object_cmp o g.object

-- the gift of an object
abbrev pub gift_of : Gifts → Object → Option Gift
gift_of gs o = find (is_of o) gs

-- there is a gift of an object, given or not
abbrev pub has_place : Gifts → Object → Bool
has_place gs o = is_some (gift_of gs o)

-- how often an object is given
abbrev pub givers_of : Gifts → Object → ℕ
givers_of gs o = option_map_or (λ g. g.givers) (gift_of gs o) 0

-- someone gives it
abbrev pub is_given : Gift → Bool
is_given g = nat_lt 0 g.givers

-- the set of the objects of the gifts that pass a test
abbrev pub objects_by : (Gift → Bool) → Gifts → Objects
objects_by test gs = set_of (map (λ g. g.object) (filter test gs))

-- what is held
abbrev pub held_of : Gifts → Objects
held_of gs = objects_by (λ g. g.held) gs

-- what is given
abbrev pub given_of : Gifts → Objects
given_of gs = objects_by is_given gs

-- gifts of distinct objects, each an address or a route with name, addresses and numbers of their form
pub record AreGifts (gs : Gifts) : Type 0 where
  pub once : AreDistinct (map (λ g. g.object) gs)
  pub upper : (g : Gift) → Contains gs g → is_upper g.object ≡ true
  pub fit : (g : Gift) → Contains gs g → IsPrintable g.object
