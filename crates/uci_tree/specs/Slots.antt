-- The options of a section while its commands are read, in slots.
use Rattle.std.specs.Prelude.{ℕ, zero, suc, ◌≡◌, ◌≤◌, ◌<◌, ◌↔◌, if◌then◌else◌, List, [], ◌∷◌, map, Option, Some, None}
use Rattle.std.specs.Ordering.{nat_cmp}
use Rattle.std.specs.Cmp.Lexicographic.{slice_cmp}
use Rattle.std.specs.BTreeMap.{BTreeMap, get, is_at}
use Rattle.uci_tree.specs.declared.package.Value.{Value}
use Rattle.uci_tree.specs.declared.package.Opt.{Opt}
use Rattle.uci_tree.specs.declared.package.Section.{Section}
use Rattle.uci_tree.specs.declared.options.Options.{Options}
use Rattle.uci_tree.specs.declared.options.TheConstants.{SCANNED}
use Rattle.uci_tree.specs.declared.draft_section.DraftSection.{DraftSection}

-- the options in slots, in their order, without the empty slots
abbrev pub kept : List (Option Opt) → List Opt
kept [] = []
kept (None ∷ slots) = kept slots
kept (Some option ∷ slots) = option ∷ kept slots

-- the options that are there
abbrev pub options_of : Options → List Opt
options_of options = kept options.slots.items

-- the value of the option in a slot
abbrev pub value_of : Option Opt → Option Value
value_of None = None
value_of (Some option) = Some option.value

-- a slot has an option of this name
abbrev pub Holds : List ℕ → Option Opt → Type 0
Holds name None = ⊥
Holds name (Some option) = option.name ≡ name

-- the slot at a place has an option of this name
abbrev pub HoldsAt : List ℕ → List (Option Opt) → ℕ → Type 0
HoldsAt name [] place = ⊥
HoldsAt name (slot ∷ slots) zero = Holds name slot
HoldsAt name (slot ∷ slots) (suc place) = HoldsAt name slots place

-- no two slots have an option of one name
abbrev pub AreApart : List (Option Opt) → Type 0
AreApart slots = (name : List ℕ) (place other : ℕ) → HoldsAt name slots place → HoldsAt name slots other → place ≡ other

-- the map has a name at a place exactly where the slot there has an option of the name, and is none of the first, which
-- are looked through one by one
abbrev pub HasLaterSlots : BTreeMap (List ℕ) ℕ → List (Option Opt) → Type 0
HasLaterSlots places slots =
    (name : List ℕ) (place : ℕ) →
    (get (slice_cmp nat_cmp) places name ≡ Some place)
    ↔ (HoldsAt name slots place × (SCANNED ≤ place))

-- slots with the map of the later ones
pub record HasSlots (places : BTreeMap (List ℕ) ℕ) (slots : List (Option Opt)) : Type 0 where
  pub apart : AreApart slots
  pub later : HasLaterSlots places slots

-- a name has this place in a map, or none, and every other name the place that it had
abbrev pub Notes : BTreeMap (List ℕ) ℕ → BTreeMap (List ℕ) ℕ → List ℕ → Option ℕ → Type 0
Notes old new name place =
    (other : List ℕ) →
    get (slice_cmp nat_cmp) new other
    ≡ (if is_at (slice_cmp nat_cmp name) other then place else get (slice_cmp nat_cmp) old other)

-- the place of a name is noted, but for the first places
pub record Noted (old new : BTreeMap (List ℕ) ℕ) (name : List ℕ) (place : ℕ) : Type 0 where
  pub first : place < SCANNED → new ≡ old
  pub later : SCANNED ≤ place → Notes old new name (Some place)

-- the places are those of the slots
abbrev pub AreIndexed : Options → Type 0
AreIndexed options = HasSlots options.places options.slots.items

-- the section that a draft of one makes, and the sections that several make
abbrev pub section_of : DraftSection → Section
section_of draft = record {
  name = draft.name;
  anonymous = draft.anonymous;
  kind = draft.kind;
  options =
      options_of draft.options;
}

abbrev pub sections_of : List DraftSection → List Section
sections_of drafts = map section_of drafts
