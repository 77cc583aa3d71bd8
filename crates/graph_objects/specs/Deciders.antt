-- Which slots an id decides: those of the wishes of which it is one of the two ids.
use Rattle.std.specs.Prelude.{ℕ, ◌≡◌, ◌<◌, ◌≤◌, ◌⊎◌, List, [], map, length, slice_get, Contains, Option, Some, None}
use Rattle.std.specs.Prelude.{Vec, false}
use Rattle.std.specs.Option.{option_map}
use Rattle.std.specs.declared.alloc.Global.{Global}
use Rattle.graph_objects.specs.declared.slot.Wish.{Wish}
use Rattle.graph_objects.specs.Slots.{Entries}

-- the items of a list, if there is one
abbrev pub items_of : Option (Vec ℕ Global) → List ℕ
items_of None = []
items_of (Some v) = v.items

-- the slots that are listed at an id
abbrev pub slots_of : List (Vec ℕ Global) → ℕ → List ℕ
slots_of lists id = items_of (slice_get lists id)

-- a wish, whether it is wanted or not
abbrev pub unjudged : Wish → Wish
unjudged w = record w { wanted = false }

-- which object may be wanted in each slot, and the ids that decide it
abbrev pub deciders : Entries → List (Option Wish)
deciders es = map (λ e. option_map unjudged e.1.wish) es

-- each slot with a wish is listed at both of its ids, and nothing is listed but slots
pub record AreListed (lists : List (Vec ℕ Global)) (ws : List (Option Wish)) : Type 0 where
  pub first : (i : ℕ) (w : Wish) → slice_get ws i ≡ Some (Some w) → Contains (slots_of lists w.first) i
  pub second : (i : ℕ) (w : Wish) → slice_get ws i ≡ Some (Some w) → Contains (slots_of lists w.second) i
  pub within : (id i : ℕ) → Contains (slots_of lists id) i → i < length ws

-- no slot has a wish that it had not, and none is gone
pub record HasNoNewWish (old new : List (Option Wish)) : Type 0 where
  pub size : length old ≤ length new
  pub was : (i : ℕ) (w : Wish) → slice_get new i ≡ Some (Some w) → slice_get old i ≡ Some (Some w)

-- what is listed stays, and one slot at most is listed where it was not
pub record HasListed (old new : List (Vec ℕ Global)) (index : ℕ) : Type 0 where
  pub kept : (id i : ℕ) → Contains (slots_of old id) i → Contains (slots_of new id) i
  pub only : (id i : ℕ) → Contains (slots_of new id) i → Contains (slots_of old id) i ⊎ (i ≡ index)

-- a slot is listed at one of some ids
pub record IsListed (lists : List (Vec ℕ Global)) (ids : List ℕ) (i : ℕ) : Type 0 where
  pub id : ℕ
  pub among : Contains ids id
  pub there : Contains (slots_of lists id) i
