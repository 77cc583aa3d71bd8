-- Slots that are written: one with another object held, or one after another from the first on.
use Rattle.std.specs.Prelude.{ℕ, zero, suc, List, [], ◌∷◌, map, Bool, false, if◌then◌else◌, Option, Some, None, nat_lt}
use Rattle.std.specs.Option.{option_map}
use Rattle.kern_model.specs.declared.object.Object.{Object}
use Rattle.kern_model.specs.ObjectOrder.{Objects}
use Rattle.kern_model.specs.Standing.{stands_on}
use Rattle.graph_objects.specs.declared.slot.Wish.{Wish}
use Rattle.graph_objects.specs.declared.slot.Slot.{Slot}
use Rattle.graph_objects.specs.Slots.{Entries}
use Rattle.graph_objects.specs.Marks.{judged}
use Rattle.graph_objects.specs.Decided.{judged_by}

-- each slot as a function makes it, and the first slots alone
abbrev pub each_slot : (Slot → Slot) → Entries → Entries
each_slot f es = map (λ e. (e.0, f e.1)) es

abbrev pub first_slots : (Slot → Slot) → Entries → ℕ → Entries
first_slots f [] n = []
first_slots f (e ∷ es) zero = e ∷ es
first_slots f (e ∷ es) (suc n) = (e.0, f e.1) ∷ first_slots f es n

-- whether what is held stands on a name
abbrev pub leaves_with : Objects → List ℕ → Option Object → Bool
leaves_with held name None = false
leaves_with held name (Some o) = stands_on held name o

-- a slot is marked where its object leaves with a name
abbrev pub marked : Objects → List ℕ → Slot → Slot
marked held name s = record s { leaves = leaves_with held name s.held }

-- what is marked is held no longer
abbrev pub let_go : Slot → Slot
let_go s = if s.leaves then record s { held = None } else s

-- what a slot may want is wanted where both names are used
abbrev pub judged_slot : List Bool → Slot → Slot
judged_slot used s = record s { wish = option_map (judged used) s.wish }

-- the same, where one of some ids decides it
abbrev pub judged_slot_by : List Bool → List ℕ → Slot → Slot
judged_slot_by used ids s = record s { wish = option_map (judged_by used ids) s.wish }

-- what a slot may want is kept where the first id that decides it is below a number
abbrev pub wish_below : ℕ → Option Wish → Option Wish
wish_below count None = None
wish_below count (Some w) = if nat_lt w.first count then Some w else None

abbrev pub slot_below : ℕ → Slot → Slot
slot_below count s = record s { wish = wish_below count s.wish }
