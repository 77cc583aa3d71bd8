-- What comes of gifts, in the order of its calls, the first at the end.
use Rattle.std.specs.Prelude.{ℕ, ◌≡◌, ◌<◌, ◌≤◌, ◌&&◌, ◌||◌, not, List, [], ◌∷◌, ◌++◌, Contains, slice_get, Some, Bool}
use Rattle.std.specs.Prelude.{true, false, if◌then◌else◌, vec_capacity}
use Rattle.std.specs.Option.{option_map_or}
use Rattle.std.specs.Ordering.{nat_cmp, ordering_then}
use Rattle.std.specs.declared.cmp.Ordering.{Ordering}
use Rattle.std.specs.declared.cmp.Ordering.TheVariants.{Less}
use Rattle.std.specs.Cmp.Lexicographic.{slice_cmp}
use Rattle.kern_model.specs.declared.object.Object.{Object}
use Rattle.kern_model.specs.Line.{line_of}
use Rattle.kern_model.specs.CallOrder.{rank}
use Rattle.given_objects.specs.declared.gift.Gift.{Gift}
use Rattle.given_objects.specs.declared.first.Turn.{Turn}
use Rattle.given_objects.specs.declared.first.Turn.TheVariants.{Takes, Puts}
use Rattle.given_objects.specs.declared.order.CallPlace.{CallPlace}
use Rattle.given_objects.specs.declared.order.Placed.{Placed}
use Rattle.given_objects.specs.declared.order.Order.{Order}
use Rattle.given_objects.specs.Gifts.{Gifts, gift_of, is_given}
use Rattle.given_objects.specs.First.{is_take_due}
use Rattle.given_objects.specs.Turns.{call_of}

-- A gift comes in a turn: it is to be taken; or it is to be put, now or after it was taken since its name loses its
-- link.
abbrev pub is_coming : Turn → Gift → Bool
is_coming Takes g = is_take_due g
is_coming Puts g = is_given g && (not g.held || g.loses_link)

-- the turn of a call that leaves an object held, or not
abbrev pub turn_of : Bool → Turn
turn_of held = if held then Puts else Takes

-- what a test tells of the gift of an object, and false where there is none
abbrev pub of_object : (Gift → Bool) → Gifts → Object → Bool
of_object test gs o = option_map_or test (gift_of gs o) false

-- an object with the rank and the line of its call
abbrev pub placed : Turn → Object → Placed
placed turn o =
    record { place = record { rank = rank (call_of turn o); line = line_of (call_of turn o) }; object = o }

-- by rank, then by the bytes of the line
abbrev pub place_cmp : CallPlace → CallPlace → Ordering
place_cmp a b = ordering_then (nat_cmp a.rank b.rank) (slice_cmp nat_cmp a.line b.line)

-- a list with one more, where a gift comes
abbrev pub with_coming : Turn → List Placed → Gift → List Placed
with_coming turn ps g = ps ++ (if is_coming turn g then placed turn g.object ∷ [] else [])

-- a list has what comes in a turn of the gifts at places, and nothing else
pub record HasComing (turn : Turn) (gs : Gifts) (places : List ℕ) (ps : List Placed) : Type 0 where
  pub at : (p : Placed) → Contains ps p → p ≡ placed turn p.object
  pub all : (place : ℕ) (g : Gift) → Contains places place → slice_get gs place ≡ Some g
      → is_coming turn g ≡ true → Contains ps (placed turn g.object)

-- none of a list comes before one that stands later in it
abbrev pub ComeDown : List Placed → Type 0
ComeDown ps =
    (i j : ℕ) (p q : Placed) → i < j → slice_get ps i ≡ Some p → slice_get ps j ≡ Some q
    → place_cmp p.place q.place ≡ Less → ⊥

-- A list has all that comes in a turn, each at its place, with the first of them at the end. What else it has came
-- before.
pub record ListsComing (turn : Turn) (gs : Gifts) (ps : List Placed) : Type 0 where
  pub at : (p : Placed) → Contains ps p → p ≡ placed turn p.object
  pub all : (g : Gift) → Contains gs g → is_coming turn g ≡ true → Contains ps (placed turn g.object)
  pub down : ComeDown ps

-- there is room for so many calls of each turn, and for so many places
pub record HasRoom (order : Order) (count : ℕ) : Type 0 where
  pub takes : count ≤ vec_capacity order.takes
  pub puts : count ≤ vec_capacity order.puts
  pub list : count ≤ vec_capacity order.places.list
  pub flags : count ≤ vec_capacity order.places.flags

-- where the order is kept, both lists have what comes
pub record IsOrder (order : Order) (gs : Gifts) : Type 0 where
  pub takes : order.is_kept ≡ true → ListsComing Takes gs order.takes.items
  pub puts : order.is_kept ≡ true → ListsComing Puts gs order.puts.items
