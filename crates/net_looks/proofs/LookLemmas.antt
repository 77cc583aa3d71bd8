-- What the graph tells of a name, and what stands at its place.
use Rattle.std.proofs.Common.{◌≡◌, ℕ, ◌<◌, List, [], length, map, Option, Some, None, sym, ap, ◌∙◌, arith, Bor}
use Rattle.std.specs.Prelude.{bytes_eq}
use Rattle.std.specs.List.{slice_get}
use Rattle.std.specs.Option.{option_and_then, option_copied}
use Rattle.std.specs.Slice.{IsItemAt}
use Rattle.std.proofs.lemmas.List.{length-map}
use Rattle.std.proofs.lemmas.List.Quantifiers.{position-Some}
use Rattle.kern_model.proofs.TestLemmas.{bytes_same}
use Rattle.net_rules.specs.Facts.{Facts}
use Rattle.net_rules.specs.Available.{available, link}
use Rattle.net_view.specs.Places.{place_of, named}
use Rattle.net_view.proofs.PlaceLemmas.{read_at, at_place}
use Rattle.graph_rules.specs.State.{Named, Known, name_list, place_among}
use Rattle.graph_rules.specs.Answers.{available_in, link_in}
use Rattle.graph_counts.specs.Counted.{name_of}
use Rattle.graph_laws.specs.Below.{AgreesBelow}
use Rattle.graph_laws.proofs.BelowLemmas.{available_below, link_below}

-- ---- the id of a name

pub has_id : (s : Known) (name : List ℕ) (id : ℕ) → place_among s.names name ≡ Some id → id < length s.names
has_id s name id h =
    let at = position-Some (bytes_eq name) (name_list s.names) id [] h in
    omega (arith, at.0, length-map s.names (λ (n : Named). n.name))

pub of_id : (s : Known) (name : List ℕ) (id : ℕ) → place_among s.names name ≡ Some id → name_of s id ≡ name
of_id s name id h =
    let at = position-Some (bytes_eq name) (name_list s.names) id [] h in
    sym (bytes_same name (name_of s id) at.1)

pub available_by_id : (facts : Facts) (s : Known) → AgreesBelow facts s → (name : List ℕ) (id : ℕ) → place_among s.names name ≡ Some id → available_in s (name_of s id) ≡ available facts name
available_by_id facts s agrees name id h = ap (available_in s) (of_id s name id h) ∙ available_below facts s agrees name

pub link_by_id : (facts : Facts) (s : Known) → AgreesBelow facts s → (name : List ℕ) (id : ℕ) → place_among s.names name ≡ Some id → link_in s (name_of s id) ≡ link facts name
link_by_id facts s agrees name id h = ap (link_in s) (of_id s name id h) ∙ link_below facts s agrees name

-- ---- what stands at the place of a name

pub by_place : {X : Type 0} (key : X → List ℕ) (xs : List X) (name : List ℕ) (place : ℕ) (seen : List X) (r : Option (Bor X)) → place_of (map key xs) name ≡ Some place → seen ≡ xs → IsItemAt seen place r → option_copied r
    ≡ named key xs name
by_place {X} key xs name place seen r is all read =
    read_at (λ (x : Bor X). x.now) seen place r read
    ∙ ap (λ (z : List X). slice_get z place) all
    ∙ ap (option_and_then (slice_get xs)) (sym is)
    ∙ at_place key xs name

pub by_no_place : {X : Type 0} (key : X → List ℕ) (xs : List X) (name : List ℕ) → place_of (map key xs) name ≡ None → None ≡ named key xs name
by_no_place key xs name is = ap (option_and_then (slice_get xs)) (sym is) ∙ at_place key xs name
