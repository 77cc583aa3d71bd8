-- The rows that belong to a name, one after another.
use Rattle.std.proofs.Common.{◌≡◌, ℕ, ◌+◌, ◌<◌, List, [], ◌∷◌, ◌++◌, length, map, take, get_or, Bool, true, false, cond, Option, Some, None, refl, sym, ap, ◌∙◌, Vec, BTreeMap, Global}
use Rattle.std.specs.Prelude.{not, ◌&&◌, bytes_eq, filter}
use Rattle.std.specs.List.{filter_map, slice_get, cons_option}
use Rattle.std.specs.Option.{option_and_then, option_map_or}
use Rattle.std.proofs.lemmas.List.{map-append}
use Rattle.std.proofs.lemmas.List.Elements.{filter-append}
use Rattle.std.proofs.lemmas.Option.{slice_get_read}
use Rattle.net_rows.specs.declared.rows.Conf.{Conf}
use Rattle.net_rows.specs.declared.rows.InterfaceRow.{InterfaceRow}
use Rattle.net_rows.specs.declared.rows.RouteRow.{RouteRow}
use Rattle.net_rules.specs.Rows.{is_faultless, is_place_of}
use Rattle.net_view.specs.RadioPorts.{group_in}
use Rattle.net_view.proofs.PortLemmas.{more_is}
use Rattle.net_wants.specs.Grouped.{is_route_named}

-- ---- one item more

pub items_more : {X : Type 0} (test : List ℕ → X → Bool) (xs : List X) (old new : BTreeMap (List ℕ) (Vec ℕ Global)) (i : ℕ) (x : X) → i < length xs → x ≡ get_or xs i x
    → ((name : List ℕ) → map (slice_get xs) (group_in old name) ≡ map Some (filter (test name) (take i xs))) → ((q : List ℕ) → group_in new q ≡ group_in old q ++ cond (test q x) (i ∷ []) []) → (name : List ℕ)
    → map (slice_get xs) (group_in new name) ≡ map Some (filter (test name) (take (i + 1) xs))
items_more {X} test xs old new i x within is before made name =
    ap (map (slice_get xs)) (made name)
    ∙ map-append (slice_get xs) (group_in old name) (cond (test name x) (i ∷ []) [])
    ∙ ap (λ (z : List (Option X)). z ++ map (slice_get xs) (cond (test name x) (i ∷ []) [])) (before name)
    ∙ ap (λ (z : List (Option X)). map Some (filter (test name) (take i xs)) ++ z) (one (test name x) refl)
    ∙ sym (map-append Some (filter (test name) (take i xs)) (filter (test name) (x ∷ [])))
    ∙ sym (ap (map Some) (ap (filter (test name)) (more_is xs i x within is) ∙ filter-append (test name) (take i xs) (x ∷ [])))
  where
    one : (b : Bool) → test name x ≡ b → map (slice_get xs) (cond b (i ∷ []) []) ≡ map Some (filter (test name) (x ∷ []))
    one true h = ap (λ (o : Option X). o ∷ []) (slice_get_read xs (length xs) i x refl within is) ∙ sym (ap (λ (b : Bool). map Some (cond b (x ∷ []) [])) h)
    one false h = sym (ap (λ (b : Bool). map Some (cond b (x ∷ []) [])) h)

-- ---- what is at the places

pub items_are : {X : Type 0} (xs : List X) → (places : List ℕ) (ys : List X) → map (slice_get xs) places ≡ map Some ys → filter_map (slice_get xs) places ≡ ys
items_are xs [] [] h = refl
items_are xs [] (y ∷ ys) h = cc h
items_are xs (place ∷ places) [] h = cc h
items_are {X} xs (place ∷ places) (y ∷ ys) h =
    let first : slice_get xs place ≡ Some y = cc h in
    let others : map (slice_get xs) places ≡ map Some ys = cc h in
    ap (λ (o : Option X). cons_option o (filter_map (slice_get xs) places)) first ∙ ap (λ (z : List X). y ∷ z) (items_are xs places ys others)

-- ---- to whom a row belongs

-- the interface of a route that counts
abbrev pub route_interface : Conf → RouteRow → Option InterfaceRow
route_interface conf r = cond (is_faultless r.faults && not r.disabled) (option_and_then (slice_get conf.interfaces) r.interface) None

pub route_named : (conf : Conf) (r : RouteRow) (q : List ℕ) → option_map_or (λ (row : InterfaceRow). bytes_eq row.name q) (route_interface conf r) false ≡ is_route_named conf q r
route_named conf r q = tests (is_faultless r.faults) r.disabled ∙ ap (λ b. is_faultless r.faults && (not r.disabled && b)) (at r.interface)
  where
    at : (place : Option ℕ) → option_map_or (λ (row : InterfaceRow). bytes_eq row.name q) (option_and_then (slice_get conf.interfaces) place) false ≡ is_place_of conf q place
    at None = refl
    at (Some place) = refl

    tests : (a d : Bool) → option_map_or (λ (row : InterfaceRow). bytes_eq row.name q) (cond (a && not d) (option_and_then (slice_get conf.interfaces) r.interface) None) false
        ≡ (a && (not d && option_map_or (λ (row : InterfaceRow). bytes_eq row.name q) (option_and_then (slice_get conf.interfaces) r.interface) false))
    tests true true = refl
    tests true false = refl
    tests false d = refl
