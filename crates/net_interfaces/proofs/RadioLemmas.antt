-- The rows of radios, with one more section of an interface.
use Rattle.std.proofs.Common.{◌≡◌, ℕ, zero, suc, ◌+◌, ◌<◌, ◌≤◌, ◌==◌, Bool, true, false, cond, List, [], ◌∷◌, ◌++◌, length, map, take, get_or, set, Option, Some, None, refl, sym, ap, subst, ◌∙◌, arith, append-nil, ne_eqb, eq-eqb}
use Rattle.std.specs.Prelude.{filter}
use Rattle.std.proofs.lemmas.List.{map-append, take_more}
use Rattle.std.proofs.lemmas.List.Elements.{filter-append}
use Rattle.std.specs.BTreeMap.{BTreeMap}
use Rattle.uci_tree.specs.declared.package.Section.{Section}
use Rattle.net_rows.specs.declared.rows.WifiRow.{WifiRow}
use Rattle.net_rows.specs.declared.rows.RadioRow.{RadioRow}
use Rattle.net_interfaces.specs.Names.{HasPlaces}
use Rattle.net_interfaces.specs.Radios.{wifi_row, radio_row, radios, radio_names, radio_of, is_place, rows_at, rows_from, with_row_at, with_wifi}

-- ---- a row that is pushed

pub with_row_past : (rows : List RadioRow) (place : ℕ) (row : WifiRow) → length rows ≤ place → rows ≡ with_row_at place row rows
with_row_past [] place row past = refl
with_row_past (radio ∷ others) zero row past = absurd (omega arith)
with_row_past (radio ∷ others) (suc place) row past = ap (λ (z : List RadioRow). radio ∷ z) (with_row_past others place row (omega arith))

pub with_row_set : (rows : List RadioRow) (place : ℕ) (row : WifiRow) (old : RadioRow) → place < length rows → old ≡ get_or rows place old → set rows place (record old { rows = old.rows ++ row ∷ [] }) ≡ with_row_at place row rows
with_row_set [] place row old within is = absurd (omega arith)
with_row_set (radio ∷ others) zero row old within is = ap (λ (z : RadioRow). record z { rows = z.rows ++ row ∷ [] } ∷ others) is
with_row_set (radio ∷ others) (suc place) row old within is = ap (λ (z : List RadioRow). radio ∷ z) (with_row_set others place row old (omega arith) is)

-- ---- one more section

map_one : (b : Bool) (section : Section) → map wifi_row (cond b (section ∷ []) []) ≡ cond b (wifi_row section ∷ []) []
map_one true section = refl
map_one false section = refl

rows_more : (names : List (List ℕ)) (place : ℕ) (seen : List Section) (section : Section) → rows_at names place (seen ++ section ∷ []) ≡ rows_at names place seen ++ cond (is_place place (radio_of names section)) (wifi_row section ∷ []) []
rows_more names place seen section =
    let names_it : Section → Bool = λ other. is_place place (radio_of names other) in
    ap (map wifi_row) (filter-append names_it seen (section ∷ []))
    ∙ map-append wifi_row (filter names_it seen) (cond (names_it section) (section ∷ []) [])
    ∙ ap (λ (z : List WifiRow). rows_at names place seen ++ z) (map_one (names_it section) section)

rows_away : (names : List (List ℕ)) (place : ℕ) (seen : List Section) (section : Section) → is_place place (radio_of names section) ≡ false → rows_at names place (seen ++ section ∷ []) ≡ rows_at names place seen
rows_away names place seen section away =
    rows_more names place seen section
    ∙ ap (λ (z : Bool). rows_at names place seen ++ cond z (wifi_row section ∷ []) []) away
    ∙ append-nil (rows_at names place seen)

rows_here : (names : List (List ℕ)) (place : ℕ) (seen : List Section) (section : Section) → is_place place (radio_of names section) ≡ true → rows_at names place (seen ++ section ∷ []) ≡ rows_at names place seen ++ wifi_row section ∷ []
rows_here names place seen section here =
    rows_more names place seen section
    ∙ ap (λ (z : Bool). rows_at names place seen ++ cond z (wifi_row section ∷ []) []) here

all_away : (names : List (List ℕ)) (seen : List Section) (section : Section) (base : ℕ) (others : List Section) → ((place : ℕ) → base ≤ place → is_place place (radio_of names section) ≡ false)
    → rows_from names (seen ++ section ∷ []) base others ≡ rows_from names seen base others
all_away names seen section base [] away = refl
all_away names seen section base (radio ∷ others) away =
    let head = rows_away names base seen section (away base (omega arith)) in
    let tail = all_away names seen section (base + 1) others (λ place past. away place (omega arith)) in
    λ i. radio_row radio (head i) ∷ tail i

at_place : (names : List (List ℕ)) (section : Section) (found place : ℕ) (b : Bool) → radio_of names section ≡ Some found → (found == place) ≡ b → is_place place (radio_of names section) ≡ b
at_place names section found place b is same = ap (is_place place) is ∙ same

row_pushed : (names : List (List ℕ)) (seen : List Section) (section : Section) (base k : ℕ) (others : List Section) → radio_of names section ≡ Some (base + k) → rows_from names (seen ++ section ∷ []) base others
    ≡ with_row_at k (wifi_row section) (rows_from names seen base others)
row_pushed names seen section base k [] is = refl
row_pushed names seen section base zero (radio ∷ others) is =
    let head = rows_here names base seen section (at_place names section (base + 0) base true is (eq-eqb (base + 0) base (omega arith))) in
    let tail = all_away names seen section (base + 1) others (λ place past. at_place names section (base + 0) place false is (ne_eqb (base + 0) place (omega arith))) in
    λ i. radio_row radio (head i) ∷ tail i
row_pushed names seen section base (suc k) (radio ∷ others) is =
    let head = rows_away names base seen section (at_place names section (base + suc k) base false is (ne_eqb (base + suc k) base (omega arith))) in
    let next : base + suc k ≡ base + 1 + k = omega arith in
    let tail = row_pushed names seen section (base + 1) k others (is ∙ ap (λ n. Some n) next) in
    λ i. radio_row radio (head i) ∷ tail i

wifi_more : (names : List (List ℕ)) (seen : List Section) (section : Section) (others : List Section) (place : Option ℕ) → radio_of names section ≡ place → rows_from names (seen ++ section ∷ []) 0 others
    ≡ with_wifi place section (rows_from names seen 0 others)
wifi_more names seen section others None is = all_away names seen section 0 others (λ place past. ap (is_place place) is)
wifi_more names seen section others (Some k) is =
    let at : k ≡ 0 + k = omega arith in
    row_pushed names seen section 0 k others (is ∙ ap (λ n. Some n) at)

pub wifi_goes_on : (names : List (List ℕ)) (sections : List Section) (index : ℕ) (section : Section) (others : List Section) (old new : List RadioRow) → index < length sections → section ≡ get_or sections index section → old
    ≡ rows_from names (take index sections) 0 others → new ≡ with_wifi (radio_of names section) section old → new ≡ rows_from names (take (index + 1) sections) 0 others
wifi_goes_on names sections index section others old new within is sofar made =
    let more : take (index + 1) sections ≡ take index sections ++ section ∷ [] = take_more sections index section within ∙ ap (λ (z : Section). take index sections ++ z ∷ []) (sym is) in
    made ∙ ap (with_wifi (radio_of names section) section) sofar
    ∙ sym (ap (λ (z : List Section). rows_from names z 0 others) more ∙ wifi_more names (take index sections) section others (radio_of names section) refl)

-- ---- before any section

pub bare_from : (names : List (List ℕ)) (base : ℕ) (others : List Section) → map (λ radio. radio_row radio []) others ≡ rows_from names [] base others
bare_from names base [] = refl
bare_from names base (radio ∷ others) = ap (λ (z : List RadioRow). radio_row radio [] ∷ z) (bare_from names (base + 1) others)

bare_names : (others : List Section) → map (λ row. row.name) (map (λ radio. radio_row radio []) others) ≡ map (λ section. section.name) others
bare_names [] = refl
bare_names (radio ∷ others) = ap (λ (z : List (List ℕ)). radio.name ∷ z) (bare_names others)

pub places_are : (places : BTreeMap (List ℕ) ℕ) (sections : List Section) (rows : List RadioRow) → rows ≡ map (λ radio. radio_row radio []) (radios sections) → HasPlaces places (map (λ row. row.name) rows)
    → HasPlaces places (radio_names sections)
places_are places sections rows are has = subst (HasPlaces places) (ap (map (λ (row : RadioRow). row.name)) are ∙ bare_names (radios sections)) has
