-- Places of names in a list.
use Rattle.std.specs.Prelude.{ℕ, ◌≡◌, List, Option, bytes_eq, position}
use Rattle.std.specs.Option.{option_and_then}
use Rattle.std.specs.Ordering.{nat_cmp}
use Rattle.std.specs.Cmp.Lexicographic.{slice_cmp}
use Rattle.std.specs.BTreeMap.{BTreeMap, get}
use Rattle.uci_tree.specs.declared.package.Opt.{Opt}
use Rattle.net_rows.specs.Options.{text_of}

-- the place of a name, which is that of the first where it stands several times
abbrev pub place_of : List (List ℕ) → List ℕ → Option ℕ
place_of names name = position (λ other. bytes_eq other name) names

-- the place of the name that an option gives
abbrev pub place_given : List (List ℕ) → List ℕ → List Opt → Option ℕ
place_given names option options = option_and_then (place_of names) (text_of option options)

-- a map has the places of these names
abbrev pub HasPlaces : BTreeMap (List ℕ) ℕ → List (List ℕ) → Type 0
HasPlaces places names = (name : List ℕ) → get (slice_cmp nat_cmp) places name ≡ place_of names name
