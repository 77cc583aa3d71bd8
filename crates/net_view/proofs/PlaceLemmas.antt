-- Places of names, one name after another, and what is at them.
use Rattle.std.proofs.Common.{◌≡◌, ℕ, suc, ◌+◌, ◌<◌, List, [], ◌∷◌, ◌++◌, length, map, take, get_or, Bool, true, false, Option, Some, None, refl, sym, ap, ◌∙◌, subst, arith, Bor}
use Rattle.std.specs.Prelude.{cond, bytes_eq, is_some, ◌||◌}
use Rattle.std.specs.List.{slice_get}
use Rattle.std.specs.Option.{option_map, option_and_then, option_copied}
use Rattle.std.specs.Ordering.{nat_cmp}
use Rattle.std.specs.Cmp.Lexicographic.{slice_cmp}
use Rattle.std.specs.BTreeMap.{BTreeMap, get}
use Rattle.std.proofs.lemmas.List.{take_more, map-append, length-map, length-take-le}
use Rattle.std.proofs.lemmas.Option.{slice_get_read, slice_get_past}
use Rattle.std.specs.List.{ItemBy}
use Rattle.std.specs.Slice.{IsItemAt}
use Rattle.uci_tree.proofs.FoldLemmas.{position-cons}
use Rattle.uci_tree.specs.Index.{first_place, HasNoted}
use Rattle.uci_tree.proofs.SectionLemmas.{position-push}
use Rattle.net_view.specs.Places.{place_of, HasPlaces, named}

places_push : (old new : BTreeMap (List ℕ) ℕ) (names : List (List ℕ)) (name : List ℕ) (place : ℕ) → HasPlaces old names → HasNoted old new name place → place ≡ length names → HasPlaces new (names ++ name ∷ [])
places_push old new names name place has noted is other =
    noted other
    ∙ ap (λ (z : Option ℕ). first_place z (cond {A = Option ℕ} (bytes_eq name other) (Some place) None)) (has other)
    ∙ ap (λ (z : ℕ). first_place (place_of names other) (cond {A = Option ℕ} (bytes_eq name other) (Some z) None)) is
    ∙ sym (position-push (λ title. bytes_eq title other) names name)

-- one more name of a list of rows
pub places_go_on : {X : Type 0} (name_of : X → List ℕ) (old new : BTreeMap (List ℕ) ℕ) (rows : List X) (place : ℕ) (row : X) → HasPlaces old (map name_of (take place rows)) → HasNoted old new (name_of row) place → place < length rows → row
    ≡ get_or rows place row → HasPlaces new (map name_of (take (place + 1) rows))
places_go_on {X} name_of old new rows place row has noted within is =
    let count : place ≡ length (map name_of (take place rows)) = sym (length-map (take place rows) name_of ∙ length-take-le place rows (omega arith)) in
    let more : take (place + 1) rows ≡ take place rows ++ row ∷ [] = take_more rows place row within ∙ ap (λ (z : X). take place rows ++ z ∷ []) (sym is) in
    let names : map name_of (take (place + 1) rows) ≡ map name_of (take place rows) ++ name_of row ∷ [] = ap (map name_of) more ∙ map-append name_of (take place rows) (row ∷ []) in
    subst (HasPlaces new) (sym names) (places_push old new (map name_of (take place rows)) (name_of row) place has noted count)

-- what is at the place of a name is the first of that name
at_step : {X : Type 0} (b : Bool) (x : X) (xs : List X) (place : Option ℕ) (found : Option X) → option_and_then (slice_get xs) place ≡ found
    → option_and_then (slice_get (x ∷ xs)) (cond {A = Option ℕ} b (Some 0) (option_map (λ k. suc k) place)) ≡ cond b (Some x) found
at_step true x xs place found h = refl
at_step false x xs None found h = h
at_step false x xs (Some k) found h = h

pub at_place : {X : Type 0} (key : X → List ℕ) → (xs : List X) (name : List ℕ) → option_and_then (slice_get xs) (place_of (map key xs) name) ≡ named key xs name
at_place key [] name = refl
at_place key (x ∷ xs) name =
    ap (option_and_then (slice_get (x ∷ xs))) (position-cons (λ other. bytes_eq other name) (key x) (map key xs))
    ∙ at_step (bytes_eq (key x) name) x xs (place_of (map key xs) name) (named key xs name) (at_place key xs name)

-- what a read of a list gives
pub read_at : {R X : Type 0} (now : R → X) (xs : List X) (i : ℕ) (r : Option R) → ItemBy now xs i i r → option_map now r ≡ slice_get xs i
read_at now xs i None h = sym (slice_get_past xs i h.3)
read_at now xs i (Some x) h = sym (slice_get_read xs (length xs) i (now x) refl h.3.0 h.1)

-- the same by a map of the places
pub by_map : {X : Type 0} (key : X → List ℕ) (xs : List X) (name : List ℕ) (places : BTreeMap (List ℕ) ℕ) (place : ℕ) (seen : List X) (r : Option (Bor X)) → HasPlaces places (map key xs) → Some place ≡ get (slice_cmp nat_cmp) places name
    → seen ≡ xs → IsItemAt seen place r → option_copied r ≡ named key xs name
by_map {X} key xs name places place seen r has is all read =
    read_at (λ (x : Bor X). x.now) seen place r read
    ∙ ap (λ (z : List X). slice_get z place) all
    ∙ ap (option_and_then (slice_get xs)) (is ∙ has name)
    ∙ at_place key xs name

pub by_map_none : {X : Type 0} (key : X → List ℕ) (xs : List X) (name : List ℕ) (places : BTreeMap (List ℕ) ℕ) → HasPlaces places (map key xs) → None ≡ get (slice_cmp nat_cmp) places name → None ≡ named key xs name
by_map_none key xs name places has is = ap (option_and_then (slice_get xs)) (is ∙ has name) ∙ at_place key xs name

-- a name that has a place is that of one
place_some : (b : Bool) (place : Option ℕ) → is_some (cond {A = Option ℕ} b (Some 0) (option_map (λ k. suc k) place)) ≡ (b || is_some place)
place_some true place = refl
place_some false None = refl
place_some false (Some k) = refl

found_some : {X : Type 0} (b : Bool) (x : X) (found : Option X) → is_some (cond b (Some x) found) ≡ (b || is_some found)
found_some true x found = refl
found_some false x found = refl

pub place_is_found : {X : Type 0} (key : X → List ℕ) → (xs : List X) (name : List ℕ) → is_some (place_of (map key xs) name) ≡ is_some (named key xs name)
place_is_found key [] name = refl
place_is_found key (x ∷ xs) name =
    ap is_some (position-cons (λ other. bytes_eq other name) (key x) (map key xs))
    ∙ place_some (bytes_eq (key x) name) (place_of (map key xs) name)
    ∙ ap (λ b. bytes_eq (key x) name || b) (place_is_found key xs name)
    ∙ sym (found_some (bytes_eq (key x) name) x (named key xs name))
