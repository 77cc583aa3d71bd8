-- Names of which the use of some ids alone has changed.
use Rattle.std.specs.Prelude.{ℕ, ◌≡◌, ◌⊎◌, ◌<◌, List, Bool, map, length, Contains}
use Rattle.graph_objects.specs.declared.slot.Wish.{Wish}
use Rattle.graph_objects.specs.Marks.{is_used}
use Rattle.graph_rules.specs.State.{Known, names_in}
use Rattle.graph_rules.specs.Answers.{used_in}
use Rattle.graph_counts.specs.Counted.{name_of}
use Rattle.graph_wishes.specs.Wishes.{mays}
use Rattle.graph_tables.specs.Wished.{wish_in}
use Rattle.graph_tables.specs.Lists.{AreUsed, HaveSame}

-- Names as they were before: their spelling and what they may want is as it is now, and each id whose use differs now
-- is one of some. By them the marks were set, and what is wanted was judged.
pub record DiffersAt (before now : Known) (ids : List ℕ) (used : List Bool) (ws : List Wish) : Type 0 where
  pub spelling : names_in before ≡ names_in now
  pub objects : mays before ≡ mays now
  pub size : length used ≡ length now.names
  pub uses : AreUsed before used
  pub wishes : HaveSame ws (map (wish_in before) (mays before))
  pub differing : (id : ℕ) → id < length now.names
      → (used_in before (name_of before id) ≡ used_in now (name_of now id) → ⊥) → Contains ids id

-- the marks of some ids say whether their names are used, and the others are as they were
abbrev pub SeesSome : Known → List ℕ → List Bool → List Bool → Type 0
SeesSome s ids old new =
    (id : ℕ) → (is_used new id ≡ used_in s (name_of s id))
    ⊎ ((Contains ids id → ⊥) × (is_used new id ≡ is_used old id))
