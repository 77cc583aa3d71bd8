-- Touched interfaces, by the places of their rows.
use Rattle.std.specs.Prelude.{ℕ, ◌==◌, List, map, Bool, false}
use Rattle.std.specs.List.{list_any}
use Rattle.std.specs.Option.{option_map_or}
use Rattle.net_rows.specs.declared.rows.InterfaceRow.{InterfaceRow}
use Rattle.known_inputs.specs.Steps.{place_of}

-- a place is among some
abbrev pub has : List ℕ → ℕ → Bool
has places place = list_any (λ other. place == other) places

-- the names of the rows
abbrev pub names_of_rows : List InterfaceRow → List (List ℕ)
names_of_rows rows = map (λ row. row.name) rows

-- the first row of a name stands at one of some places
abbrev pub is_touched : List InterfaceRow → List ℕ → List ℕ → Bool
is_touched rows places name = option_map_or (has places) (place_of (names_of_rows rows) name) false
