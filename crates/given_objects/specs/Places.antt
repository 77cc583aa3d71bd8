-- Places of a table at which something may come.
use Rattle.std.specs.Prelude.{ℕ, ◌≡◌, ◌≤◌, ◌<◌, ◌||◌, List, Bool, true, false, Some, length, filter, Contains}
use Rattle.std.specs.Prelude.{slice_get, slice_index_or}
use Rattle.given_objects.specs.declared.gift.Gift.{Gift}
use Rattle.given_objects.specs.declared.first.Turn.TheVariants.{Takes, Puts}
use Rattle.given_objects.specs.declared.places.Places.{Places}
use Rattle.given_objects.specs.Gifts.{Gifts}
use Rattle.given_objects.specs.Ordered.{is_coming}

-- how many flags are set
abbrev pub count_set : List Bool → ℕ
count_set flags = length (filter (λ flag. flag) flags)

-- A place is listed where its flag is set. No more are listed than flags are set, so that each is there once and no
-- other is.
pub record AreListed (list : List ℕ) (flags : List Bool) : Type 0 where
  pub few : length list ≤ count_set flags
  pub all : (place : ℕ) → slice_index_or flags place false ≡ true → Contains list place
  pub within : (place : ℕ) → Contains list place → place < length flags

abbrev pub ArePlaces : Places → Type 0
ArePlaces places = AreListed places.list.items places.flags.items

-- a gift comes in one turn or the other
abbrev pub comes : Gift → Bool
comes g = is_coming Takes g || is_coming Puts g

-- there is a flag for each gift, and the places of all that come are listed
pub record AreListedFor (list : List ℕ) (flags : List Bool) (gs : Gifts) : Type 0 where
  pub places : AreListed list flags
  pub size : length flags ≡ length gs
  pub coming : (place : ℕ) (g : Gift) → slice_get gs place ≡ Some g → comes g ≡ true
      → slice_index_or flags place false ≡ true

abbrev pub ArePlacesOf : Gifts → Places → Type 0
ArePlacesOf gs places = AreListedFor places.list.items places.flags.items gs

-- something comes at the places of a list from an index on
abbrev pub ComeFrom : Gifts → List ℕ → ℕ → Type 0
ComeFrom gs list start =
    (k : ℕ) (g : Gift) → start ≤ k → k < length list → slice_get gs (slice_index_or list k 0) ≡ Some g
    → comes g ≡ true
