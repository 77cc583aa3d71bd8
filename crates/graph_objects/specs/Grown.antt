-- Slots and wishes with one more, and what they ask of it.
use Rattle.std.specs.Prelude.{ℕ, ◌≡◌, ◌⊎◌, ◌↔◌, List, [], ◌∷◌, ◌++◌, Contains, Option, Some, None, slice_get, false}
use Rattle.std.specs.Prelude.{true}
use Rattle.std.specs.FinSet as set
use Rattle.kern_model.specs.declared.object.Object.{Object}
use Rattle.kern_model.specs.ObjectOrder.{Objects, Has}
use Rattle.kern_calls.specs.Lower.{is_lower}
use Rattle.graph_objects.specs.declared.key.ObjectKey.{ObjectKey}
use Rattle.graph_objects.specs.declared.slot.Slot.{Slot}
use Rattle.graph_objects.specs.declared.slot.Wish.{Wish}
use Rattle.graph_objects.specs.Keys.{key_of}
use Rattle.graph_objects.specs.Steady.{IsGrounded}
use Rattle.graph_objects.specs.Slots.{Entries, wished_set}

-- a slot in which nothing is
abbrev pub empty_slot : Slot
empty_slot = record { held = None; wish = None; leaves = false }

-- the entries have a slot of that key at that place, and nothing else is new
pub record HasSlot (old new : Entries) (key : ObjectKey) (index : ℕ) : Type 0 where
  pub slot : Slot
  pub there : slice_get new index ≡ Some (key, slot)
  pub more : (new ≡ old) ⊎ (new ≡ old ++ (key, empty_slot) ∷ [])

-- nothing is new, or the entries have such a slot
abbrev pub MayHaveSlot : Entries → Entries → ObjectKey → Type 0
MayHaveSlot old new key = (new ≡ old) ⊎ ((index : ℕ) × HasSlot old new key index)

-- there is this wish among others
abbrev pub HasMore : List Wish → List Wish → Wish → Type 0
HasMore old new wish = (w : Wish) → Contains new w ↔ (Contains old w ⊎ (w ≡ wish))

-- an object may be wanted beside others: it is neither an address nor a route, none of them has its key,
-- and no VLAN comes under itself
pub record CanExpect (wishes : List Wish) (wish : Wish) : Type 0 where
  pub lower : is_lower wish.object ≡ true
  pub apart : (w : Wish) → Contains wishes w → key_of w.object ≡ key_of wish.object → w ≡ wish
  pub grounded : IsGrounded (wished_set (wish ∷ wishes))

-- an object may be held beside others
pub record CanKeep (held : Objects) (o : Object) : Type 0 where
  pub lower : is_lower o ≡ true
  pub apart : (x : Object) → Has held x → key_of x ≡ key_of o → x ≡ o
  pub grounded : IsGrounded (set.insert held o)

-- with one more object, if there is one
abbrev pub with_held : Objects → Option Object → Objects
with_held held None = held
with_held held (Some o) = set.insert held o
