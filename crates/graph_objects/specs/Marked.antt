-- Slots that are marked: all of which a settling may take or put an object.
use Rattle.std.specs.Prelude.{ℕ, ◌≡◌, ◌≤◌, ◌*◌, ◌⊎◌, List, length, slice_get, Bool, true, false, nat_lt, Option, Some}
use Rattle.std.specs.Prelude.{None}
use Rattle.kern_model.specs.declared.object.LinkKind.{LinkKind}
use Rattle.kern_model.specs.declared.object.Object.{Object}
use Rattle.kern_model.specs.declared.object.Object.TheVariants as object
use Rattle.kern_model.specs.ObjectOrder.{Has}
use Rattle.kern_model.specs.Touched.{is_on_taken}
use Rattle.graph_objects.specs.declared.key.ObjectKey.{ObjectKey}
use Rattle.graph_objects.specs.declared.slot.Slot.{Slot}
use Rattle.graph_objects.specs.declared.slot.Side.TheVariants.{Held, Wanted}
use Rattle.graph_objects.specs.Slots.{on, Entries, set_on}
use Rattle.graph_objects.specs.Alone.{alone}
use Rattle.graph_objects.specs.Bits.{bit}

-- whether what a slot holds and what is wanted in it differ
abbrev pub differs : Slot → Bool
differs s = nat_lt 0 (alone (on Held s) (on Wanted s))

-- whether an object is a link, and whether one is held
abbrev pub is_link : Object → Bool
is_link (object.Link name kind) = true
is_link _ = false

abbrev pub holds_link : Option Object → Bool
holds_link None = false
holds_link (Some o) = is_link o

-- each slot with a difference is marked
abbrev pub MarkDifferences : List ℕ → Entries → Type 0
MarkDifferences marks es =
    (i : ℕ) (e : ObjectKey × Slot) → slice_get es i ≡ Some e → differs e.1 ≡ true → bit marks i ≡ 1

-- each slot that holds an object on a link which is taken is marked
abbrev pub MarkFalling : List ℕ → Entries → Type 0
MarkFalling marks es =
    (i : ℕ) (e : ObjectKey × Slot) (o : Object) → slice_get es i ≡ Some e → e.1.held ≡ Some o
    → is_on_taken (set_on Held es) (set_on Wanted es) o ≡ true → bit marks i ≡ 1

-- Marks of slots have room for each. A slot is marked where what it holds and what is wanted in it differ, and where
-- what it holds is on a link that is taken.
pub record AreMarked (marks : List ℕ) (es : Entries) : Type 0 where
  pub room : length es ≤ 64 * length marks
  pub differing : MarkDifferences marks es
  pub falling : MarkFalling marks es

-- every held link is wanted
abbrev pub AreLinksWanted : Entries → Type 0
AreLinksWanted es =
    (name : List ℕ) (kind : LinkKind) → Has (set_on Held es) (object.Link name kind)
    → Has (set_on Wanted es) (object.Link name kind)

-- the slot at an index is marked where it has a difference, and where it holds an object on a link which is taken
pub record IsMarkedAt (marks : List ℕ) (es : Entries) (i : ℕ) : Type 0 where
  pub differing : (e : ObjectKey × Slot) → slice_get es i ≡ Some e → differs e.1 ≡ true → bit marks i ≡ 1
  pub falling : (e : ObjectKey × Slot) (o : Object) → slice_get es i ≡ Some e → e.1.held ≡ Some o
      → is_on_taken (set_on Held es) (set_on Wanted es) o ≡ true → bit marks i ≡ 1

-- some slots are marked so, and the marks of others stay
pub record MarkSome (es : Entries) (old new : List ℕ) (IsOne : ℕ → Type 0) : Type 0 where
  pub size : length new ≡ length old
  pub each : (i : ℕ) → IsMarkedAt new es i ⊎ ((IsOne i → ⊥) × (bit new i ≡ bit old i))
