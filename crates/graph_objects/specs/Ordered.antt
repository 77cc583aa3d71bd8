-- What is due in the order of its calls, the first at the end.
use Rattle.std.specs.Prelude.{ℕ, ◌≡◌, ◌<◌, ◌≤◌, ◌^◌, List, length, Contains, slice_get, Some, vec_capacity, true}
use Rattle.std.specs.declared.cmp.Ordering.TheVariants.{Less}
use Rattle.kern_model.specs.declared.object.Object.{Object}
use Rattle.graph_objects.specs.declared.slot.Side.TheVariants.{Held, Wanted}
use Rattle.graph_objects.specs.declared.turn.Turn.{Turn}
use Rattle.graph_objects.specs.declared.turn.Turn.TheVariants.{Takes, Puts}
use Rattle.graph_objects.specs.declared.turn.Placed.{Placed}
use Rattle.graph_objects.specs.declared.order.Order.{Order}
use Rattle.graph_objects.specs.Slots.{Entries, set_on}
use Rattle.graph_objects.specs.Turns.{is_due}
use Rattle.graph_objects.specs.Places.{plain_call, place_of, place_cmp, due_in}

-- none of a list comes before one that stands later in it
abbrev pub ComeDown : List Placed → Type 0
ComeDown ps =
    (i j : ℕ) (p q : Placed) → i < j → slice_get ps i ≡ Some p → slice_get ps j ≡ Some q
    → place_cmp p.place q.place ≡ Less → ⊥

-- a list has what is due in each slot, and nothing else
pub record HasDue (turn : Turn) (es : Entries) (ps : List Placed) : Type 0 where
  pub from : (p : Placed) → Contains ps p → (k : ℕ) × (due_in turn es k ≡ Some p)
  pub all : (k : ℕ) (p : Placed) → due_in turn es k ≡ Some p → Contains ps p

-- A list has all objects of a turn that are due, each at its place, with the first of them at the end. What else it has
-- was due before.
pub record ListsDue (turn : Turn) (es : Entries) (ps : List Placed) : Type 0 where
  pub placed : (p : Placed) → Contains ps p
      → is_due turn (set_on Held es) (set_on Wanted es) p.object ≡ true
      → p.place ≡ place_of (length es) (set_on Held es) (set_on Wanted es) (plain_call turn p.object)
  pub all : (o : Object) → is_due turn (set_on Held es) (set_on Wanted es) o ≡ true
      → (p : Placed) × Contains ps p × (p.object ≡ o)
  pub down : ComeDown ps

-- there is room for so many calls of each turn, and so many are few
pub record HasRoom (order : Order) (count : ℕ) : Type 0 where
  pub few : count ≤ 2 ^ 61
  pub takes : count ≤ vec_capacity order.takes
  pub puts : count ≤ vec_capacity order.puts

-- where the order is kept, both lists have what is due
pub record IsOrder (order : Order) (es : Entries) : Type 0 where
  pub takes : order.is_kept ≡ true → ListsDue Takes es order.takes.items
  pub puts : order.is_kept ≡ true → ListsDue Puts es order.puts.items
