-- Places of names, one name after another.
use Rattle.std.proofs.Common.{◌≡◌, ℕ, ◌+◌, ◌<◌, List, [], ◌∷◌, ◌++◌, length, map, take, get_or, Option, Some, None, sym, ap, ◌∙◌, subst, arith}
use Rattle.std.specs.Prelude.{cond, bytes_eq}
use Rattle.std.proofs.lemmas.List.{take_more, map-append, length-map, length-take-le}
use Rattle.std.specs.BTreeMap.{BTreeMap}
use Rattle.uci_tree.specs.Index.{first_place, HasNoted}
use Rattle.uci_tree.proofs.SectionLemmas.{position-push}
use Rattle.net_interfaces.specs.Names.{place_of, HasPlaces}

pub places_push : (old new : BTreeMap (List ℕ) ℕ) (names : List (List ℕ)) (name : List ℕ) (place : ℕ) → HasPlaces old names → HasNoted old new name place → place ≡ length names → HasPlaces new (names ++ name ∷ [])
places_push old new names name place has noted is other =
    noted other
    ∙ ap (λ (z : Option ℕ). first_place z (cond {A = Option ℕ} (bytes_eq name other) (Some place) None)) (has other)
    ∙ ap (λ (z : ℕ). first_place (place_of names other) (cond {A = Option ℕ} (bytes_eq name other) (Some z) None)) is
    ∙ sym (position-push (λ title. bytes_eq title other) names name)

-- one more name of a list of rows
pub places_go_on : {X : Type 0} (name_of : X → List ℕ) (old new : BTreeMap (List ℕ) ℕ) (rows : List X) (place : ℕ) (row : X) → HasPlaces old (map name_of (take place rows)) → HasNoted old new (name_of row) place → place < length rows → row
    ≡ get_or rows place row → HasPlaces new (map name_of (take (place + 1) rows))
places_go_on {X} name_of old new rows place row has noted within is =
    let count : place ≡ length (map name_of (take place rows)) = sym (length-map (take place rows) name_of ∙ length-take-le place rows (omega arith)) in
    let more : take (place + 1) rows ≡ take place rows ++ row ∷ [] = take_more rows place row within ∙ ap (λ (z : X). take place rows ++ z ∷ []) (sym is) in
    let names : map name_of (take (place + 1) rows) ≡ map name_of (take place rows) ++ name_of row ∷ [] = ap (map name_of) more ∙ map-append name_of (take place rows) (row ∷ []) in
    subst (HasPlaces new) (sym names) (places_push old new (map name_of (take place rows)) (name_of row) place has noted count)
