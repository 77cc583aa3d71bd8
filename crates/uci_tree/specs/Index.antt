-- What the reader keeps beside the sections.
use Rattle.std.specs.Prelude.{ℕ, ◌≡◌, ◌<◌, Result, Err, List, length, Option, Some, None, if◌then◌else◌, bytes_eq}
use Rattle.std.specs.List.{AllByRecursion}
use Rattle.std.specs.Ordering.{nat_cmp}
use Rattle.std.specs.Cmp.Lexicographic.{slice_cmp}
use Rattle.std.specs.BTreeMap.{BTreeMap, get}
use Rattle.uci_tree.specs.declared.package.Section.{Section}
use Rattle.uci_tree.specs.Find.{named_place}
use Rattle.uci_tree.specs.Fold.{Draft}
use Rattle.uci_tree.specs.Slots.{AreIndexed, sections_of}
use Rattle.uci_tree.specs.declared.sections.Sections.{Sections}
use Rattle.uci_tree.specs.declared.tree_error.TreeError.{TreeError}
use Rattle.uci_tree.specs.declared.tree_error.TreeError.TheVariants.{Text, NoSection, Memory}

-- the first of two places that is there
abbrev pub first_place : Option ℕ → Option ℕ → Option ℕ
first_place None other = other
first_place (Some place) other = Some place

-- the map has the place of the first section of each name
abbrev pub HasPlaces : BTreeMap (List ℕ) ℕ → List Section → Type 0
HasPlaces places sections = (name : List ℕ) → get (slice_cmp nat_cmp) places name ≡ named_place sections name

-- the map has this name at this place, where it had no such name
abbrev pub HasNoted : BTreeMap (List ℕ) ℕ → BTreeMap (List ℕ) ℕ → List ℕ → ℕ → Type 0
HasNoted old new name place = (other : List ℕ) → get (slice_cmp nat_cmp) new other
    ≡ first_place (get (slice_cmp nat_cmp) old other) (if bytes_eq name other then Some place else None)

-- the package so far
abbrev pub draft_of : Sections → Draft
draft_of state = record {
  sections = sections_of state.sections.items;
  made = length state.sections.items;
  current =
      state.current;
}

-- the places are those of the sections, the current place is one of them, and the options of each have their slots
pub record IsIndexed (state : Sections) : Type 0 where
  pub places : HasPlaces state.places (sections_of state.sections.items)
  pub within : (place : ℕ) → state.current ≡ Some place → place < length state.sections.items
  pub options : AllByRecursion (λ section. AreIndexed section.options) state.sections.items

-- why a step is refused: there is no section, or no memory
abbrev pub IsLack : Result Draft ℕ → TreeError → Type 0
IsLack outcome (Text error) = ⊥
IsLack outcome (NoSection line) = outcome ≡ Err line
IsLack outcome Memory = Unit {0}
