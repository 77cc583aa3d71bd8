-- How names and texts are kept, each once.
use Rattle.std.specs.Prelude.{ℕ, ◌≡◌, List}
use Rattle.std.specs.Ordering.{nat_cmp}
use Rattle.std.specs.Cmp.Lexicographic.{slice_cmp}
use Rattle.std.specs.BTreeSet.{contains}
use Rattle.net_devices.specs.declared.each_once.NamesOnce.TheInside as names
use Rattle.net_devices.specs.declared.each_once.TextsOnce.TheInside as texts
use Rattle.net_devices.specs.EachOnce.{has}

abbrev pub names_view : names.Inside → List (List ℕ)
names_view once = once.names.items

-- the set has the names of the list
abbrev pub KnowsNames : names.Inside → Type 0
KnowsNames once = (name : List ℕ) → contains (slice_cmp nat_cmp) once.known name ≡ has once.names.items name

abbrev pub texts_view : texts.Inside → List (List ℕ)
texts_view once = once.texts.items

-- the set has the texts of the list
abbrev pub KnowsTexts : texts.Inside → Type 0
KnowsTexts once = (text : List ℕ) → contains (slice_cmp nat_cmp) once.known text ≡ has once.texts.items text
