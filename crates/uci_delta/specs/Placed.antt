-- The places of sections by their names, where they are known.
use Rattle.std.specs.Prelude.{ℕ, ◌≡◌, List, Option, Some, IfSome}
use Rattle.std.specs.BTreeMap.{BTreeMap}
use Rattle.uci_tree.specs.declared.package.Section.{Section}
use Rattle.uci_tree.specs.Index.{HasPlaces, HasNoted}

-- the places are those of the sections, where they are known
abbrev pub ArePlaced : Option (BTreeMap (List ℕ) ℕ) → List Section → Type 0
ArePlaced places sections = IfSome places (λ known. HasPlaces known sections)

-- the places were known, and have this name at this place, where they had no such name
abbrev pub IsNotedIn : Option (BTreeMap (List ℕ) ℕ) → BTreeMap (List ℕ) ℕ → List ℕ → ℕ → Type 0
IsNotedIn places new name place = (old : BTreeMap (List ℕ) ℕ) × (places ≡ Some old) × HasNoted old new name place
