-- What `uci get` prints.
use Rattle.std.specs.Prelude.{ℕ, List, [], ◌∷◌, ◌++◌, Option, Some, None, slice_get}
use Rattle.std.specs.Option.{option_map, option_and_then}
use Rattle.uci_text.specs.Byte.{newline}
use Rattle.uci_tree.specs.declared.package.Section.{Section}
use Rattle.uci_tree.specs.declared.package.Package.{Package}
use Rattle.uci_tree.specs.declared.path.Path.{Path}
use Rattle.uci_tree.specs.declared.lookup.Place.{Place}
use Rattle.uci_tree.specs.Find.{place_of}
use Rattle.uci_cli.specs.Values.{given_value}

-- the type of a section, or the value of an option of it
abbrev pub given_in : List ℕ → Section → Option ℕ → Option (List ℕ)
given_in between section None = Some section.kind
given_in between section (Some option) =
    option_map (λ found. given_value between found.value) (slice_get section.options option)

abbrev pub given_at : List ℕ → Package → Place → Option (List ℕ)
given_at between tree place = option_and_then (λ section. given_in between section place.option)
    (slice_get tree.sections place.section)

-- a line of it
abbrev pub line_of : List ℕ → List ℕ
line_of text = text ++ newline ∷ []

-- the line of what a path leads to, where that is there
abbrev pub given_path : List ℕ → Package → Path → Option (List ℕ)
given_path between tree path = option_map line_of (option_and_then (given_at between tree) (place_of tree path))
