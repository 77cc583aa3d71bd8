-- The first port that radios tell for an interface.
use Rattle.std.proofs.Common.{◌≡◌, ℕ, ◌+◌, ◌<◌, List, [], ◌∷◌, ◌++◌, length, map, take, get_or, Bool, true, false, cond, Option, Some, None, refl, sym, ap, ◌∙◌, append-nil}
use Rattle.std.specs.Prelude.{bytes_eq, not, ◌&&◌, option_to_list}
use Rattle.std.specs.List.{find, flat_map, filter_map, zip, cons_option}
use Rattle.std.specs.Option.{option_map, option_or}
use Rattle.std.specs.Ordering.{nat_cmp}
use Rattle.std.specs.Cmp.Lexicographic.{slice_cmp}
use Rattle.std.specs.BTreeMap.{BTreeMap, get}
use Rattle.std.proofs.lemmas.List.Folds.{find-append}
use Rattle.std.proofs.lemmas.List.Concat.{flat_map-append}
use Rattle.net_rows.specs.declared.rows.RadioRow.{RadioRow}
use Rattle.net_rows.specs.declared.rows.WifiRow.{WifiRow}
use Rattle.net_rules.specs.Facts.{Facts}
use Rattle.net_rules.specs.Firsts.{firsts}
use Rattle.net_rules.specs.RadioPorts.{AnsweredPort, answered_port, ports_of_radio}
use Rattle.net_view.specs.Places.{HasPlaces, is_place}
use Rattle.net_view.specs.RadioPorts.{port_of_pair, enabled}
use Rattle.net_view.proofs.PortLemmas.{firsts_more, zip_nil}
use Rattle.net_looks.specs.Ports.{port_for}

mapped_or : (a b : Option AnsweredPort) → option_map (λ (a : AnsweredPort). a.port) (option_or a b) ≡ option_or (option_map (λ (a : AnsweredPort). a.port) a) (option_map (λ (a : AnsweredPort). a.port) b)
mapped_or None b = refl
mapped_or (Some a) b = refl

pub ports_behind : (interface : List ℕ) (xs ys : List AnsweredPort) → port_for interface (xs ++ ys) ≡ option_or (port_for interface xs) (port_for interface ys)
ports_behind interface xs ys =
    let test = λ (a : AnsweredPort). bytes_eq a.interface interface in
    ap (option_map (λ (a : AnsweredPort). a.port)) (find-append test xs ys)
    ∙ mapped_or (find test xs) (find test ys)

-- what the radio at a place tells
told_here : (facts : Facts) (radio : RadioRow) (first : Bool) → cond first (ports_of_radio facts radio) [] ≡ flat_map (ports_of_radio facts) (cond first (radio ∷ []) [])
told_here facts radio true = sym (append-nil (ports_of_radio facts radio))
told_here facts radio false = refl

-- the radios so far, with one more
pub one_radio_more : (facts : Facts) (interface : List ℕ) (radios : List RadioRow) (places : BTreeMap (List ℕ) ℕ) (place : ℕ) (radio : RadioRow) (old new : Option (List ℕ)) → HasPlaces places (map (λ (row : RadioRow). row.name) radios)
    → place < length radios → radio ≡ get_or radios place radio → old ≡ port_for interface (flat_map (ports_of_radio facts) (firsts (λ (row : RadioRow). row.name) (take place radios))) → new
    ≡ option_or old (port_for interface (cond (is_place place (get (slice_cmp nat_cmp) places radio.name)) (ports_of_radio facts radio) [])) → new
    ≡ port_for interface (flat_map (ports_of_radio facts) (firsts (λ (row : RadioRow). row.name) (take (place + 1) radios)))
one_radio_more facts interface radios places place radio old new has within is sofar made =
    let key : RadioRow → List ℕ = λ row. row.name in
    let front : List RadioRow = firsts key (take place radios) in
    let one : List RadioRow = cond (is_place place (get (slice_cmp nat_cmp) places radio.name)) (radio ∷ []) [] in
    made
    ∙ ap (λ (z : List AnsweredPort). option_or old (port_for interface z)) (told_here facts radio (is_place place (get (slice_cmp nat_cmp) places radio.name)))
    ∙ ap (λ (o : Option (List ℕ)). option_or o (port_for interface (flat_map (ports_of_radio facts) one))) sofar
    ∙ sym (ports_behind interface (flat_map (ports_of_radio facts) front) (flat_map (ports_of_radio facts) one))
    ∙ ap (port_for interface) (sym (flat_map-append (ports_of_radio facts) front one))
    ∙ ap (λ (z : List RadioRow). port_for interface (flat_map (ports_of_radio facts) z)) (sym (firsts_more key radios places place radio has within is))

-- where nothing is told there is no port
pub no_port_told : (facts : Facts) (interface : List ℕ) (rows : List WifiRow) → None ≡ port_for interface (filter_map (port_of_pair facts) (zip (enabled rows) []))
no_port_told facts interface rows = ap (λ (z : List (WifiRow × Option (List ℕ))). port_for interface (filter_map (port_of_pair facts) z)) (zip_nil (enabled rows))

-- ---- what an answer tells for one row, and for the others

one_told : (interface : List ℕ) (o : Option AnsweredPort) (others : List AnsweredPort) → port_for interface (cons_option o others) ≡ option_or (port_for interface (option_to_list o)) (port_for interface others)
one_told interface None others = refl
one_told interface (Some a) others = first (bytes_eq a.interface interface)
  where
    first : (b : Bool) → option_map (λ (a : AnsweredPort). a.port) (cond b (Some a) (find (λ (a : AnsweredPort). bytes_eq a.interface interface) others))
        ≡ option_or (option_map (λ (a : AnsweredPort). a.port) (cond {A = Option AnsweredPort} b (Some a) None)) (port_for interface others)
    first true = refl
    first false = refl

pub told_first : (facts : Facts) (interface : List ℕ) (row : WifiRow) (rows : List WifiRow) (port : Option (List ℕ)) (ports : List (Option (List ℕ))) → row.disabled ≡ false
    → port_for interface (filter_map (port_of_pair facts) (zip (enabled (row ∷ rows)) (port ∷ ports)))
    ≡ option_or (port_for interface (option_to_list (answered_port facts row.network port))) (port_for interface (filter_map (port_of_pair facts) (zip (enabled rows) ports)))
told_first facts interface row rows port ports on =
    ap (λ b. port_for interface (filter_map (port_of_pair facts) (zip (cond (not b) (row ∷ enabled rows) (enabled rows)) (port ∷ ports)))) on
    ∙ one_told interface (answered_port facts row.network port) (filter_map (port_of_pair facts) (zip (enabled rows) ports))

-- the port of a row
pub row_told : (interface network port : List ℕ) (plain : Bool) → cond (plain && bytes_eq network interface) (Some port) None ≡ port_for interface (option_to_list (cond plain (Some (record { interface = network; port = port })) None))
row_told interface network port false = refl
row_told interface network port true = same (bytes_eq network interface)
  where
    same : (b : Bool) → cond b (Some port) None ≡ option_map (λ (a : AnsweredPort). a.port) (cond {A = Option AnsweredPort} b (Some (record { interface = network; port = port })) None)
    same true = refl
    same false = refl
