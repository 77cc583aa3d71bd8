-- Wishes that are judged where one of some ids decides them.
use Rattle.std.specs.Prelude.{ℕ, ◌≡◌, List, Contains, Bool, true, ◌||◌, nat_eq, if◌then◌else◌}
use Rattle.std.specs.List.{list_any}
use Rattle.kern_model.specs.declared.object.LinkKind.{LinkKind}
use Rattle.kern_model.specs.declared.object.Object.TheVariants.{Link}
use Rattle.kern_model.specs.Standing.{places_of}
use Rattle.graph_objects.specs.declared.slot.Wish.{Wish}
use Rattle.graph_objects.specs.Marks.{judged}

-- an id is one of the two of a wish, and one of some ids is
abbrev pub decides : ℕ → Wish → Bool
decides id w = nat_eq w.first id || nat_eq w.second id

abbrev pub is_decided : List ℕ → Wish → Bool
is_decided ids w = list_any (λ id. decides id w) ids

-- a wish that one of the ids decides is wanted where both of its names are used, and others stay
abbrev pub judged_by : List Bool → List ℕ → Wish → Wish
judged_by used ids w = if is_decided ids w then judged used w else w

-- What is wanted at a name stands on a link that is wanted, if a link may be wanted there. Where this fails, as when of
-- two VLANs over each other the lower one alone is no longer wanted, the upper one has to be taken though its own wish
-- is as it was.
abbrev pub StandOnWanted : List Wish → Type 0
StandOnWanted ws =
    (w link : Wish) (name : List ℕ) (kind : LinkKind) → Contains ws w → w.wanted ≡ true
    → Contains (places_of w.object) name → Contains ws link → link.object ≡ Link name kind
    → link.wanted ≡ true
