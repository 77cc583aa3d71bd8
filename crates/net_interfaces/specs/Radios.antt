-- The rows of `wifi-device` and `wifi-iface` sections (OpenWrt's wireless configuration).
use Rattle.std.specs.Prelude.{ℕ, zero, suc, ◌+◌, ◌==◌, Bool, false, List, [], ◌∷◌, ◌++◌, Option, Some, None, codes}
use Rattle.std.specs.Prelude.{bytes_eq, map, filter, if◌then◌else◌}
use Rattle.uci_tree.specs.declared.package.Value.{Value}
use Rattle.uci_tree.specs.declared.package.Section.{Section}
use Rattle.net_rows.specs.Options.{value_of, text_of}
use Rattle.net_rows.specs.Words.{words_of}
use Rattle.net_rows.specs.Truth.{truth}
use Rattle.net_rows.specs.declared.rows.WifiRow.{WifiRow}
use Rattle.net_rows.specs.declared.rows.RadioRow.{RadioRow}
use Rattle.net_interfaces.specs.declared.kinds.TheConstants.{WIFI_DEVICE, WIFI_IFACE}
use Rattle.net_interfaces.specs.Names.{place_given}

abbrev pub is_radio : Section → Bool
is_radio section = bytes_eq section.kind WIFI_DEVICE.now

abbrev pub is_wifi : Section → Bool
is_wifi section = bytes_eq section.kind WIFI_IFACE.now

abbrev pub first_of : List (List ℕ) → Option (List ℕ)
first_of [] = None
first_of (word ∷ words) = Some word

-- the first word of a value
abbrev pub first_word : Option Value → Option (List ℕ)
first_word None = None
first_word (Some value) = first_of (words_of value)

-- the row of a `wifi-iface` section, with all its options
abbrev pub wifi_row : Section → WifiRow
wifi_row section = record {
  network = first_word (value_of (codes "network") section.options);
  disabled = truth false (text_of (codes "disabled") section.options);
  options = section.options;
}

-- the row of a `wifi-device` section, with all its options
abbrev pub radio_row : Section → List WifiRow → RadioRow
radio_row section rows = record {
  name = section.name;
  disabled = truth false (text_of (codes "disabled") section.options);
  options = section.options;
  rows = rows;
  faults = [];
}

-- the radios, and their names
abbrev pub radios : List Section → List Section
radios sections = filter is_radio sections

abbrev pub radio_names : List Section → List (List ℕ)
radio_names sections = map (λ section. section.name) (radios sections)

-- the place of the radio that a `wifi-iface` section names
abbrev pub radio_of : List (List ℕ) → Section → Option ℕ
radio_of names section = if is_wifi section then place_given names (codes "device") section.options else None

abbrev pub is_place : ℕ → Option ℕ → Bool
is_place place None = false
is_place place (Some other) = other == place

-- the rows of the sections that name the radio at a place
abbrev pub rows_at : List (List ℕ) → ℕ → List Section → List WifiRow
rows_at names place sections = map wifi_row (filter (λ section. is_place place (radio_of names section)) sections)

-- the rows of radios, of which the first has this place
abbrev pub rows_from : List (List ℕ) → List Section → ℕ → List Section → List RadioRow
rows_from names sections place [] = []
rows_from names sections place (radio ∷ others) = radio_row radio (rows_at names place sections)
    ∷ rows_from names sections (place + 1) others

-- the rows of all radios, in file order, each with the rows of the sections that name it; a name is that of the first
-- radio that has it
abbrev pub radio_rows : List Section → List RadioRow
radio_rows sections = rows_from (radio_names sections) sections 0 (radios sections)

-- one more row for the radio at a place
abbrev pub with_row_at : ℕ → WifiRow → List RadioRow → List RadioRow
with_row_at place row [] = []
with_row_at zero row (radio ∷ others) = record radio { rows = radio.rows ++ row ∷ [] } ∷ others
with_row_at (suc place) row (radio ∷ others) = radio ∷ with_row_at place row others

-- the rows of radios, with that of a section for the radio at a place, if there is one
abbrev pub with_wifi : Option ℕ → Section → List RadioRow → List RadioRow
with_wifi None section rows = rows
with_wifi (Some place) section rows = with_row_at place (wifi_row section) rows
