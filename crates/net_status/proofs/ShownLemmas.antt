-- One row more, and faults in two parts.
use Rattle.std.proofs.Common.{◌≡◌, ℕ, ◌+◌, ◌<◌, List, [], ◌∷◌, ◌++◌, length, get_or, map, take, cond, sym, ap, ◌∙◌}
use Rattle.std.specs.Ordering.{nat_cmp}
use Rattle.std.specs.Cmp.Lexicographic.{slice_cmp}
use Rattle.std.specs.BTreeMap.{BTreeMap, get}
use Rattle.std.proofs.lemmas.List.{map-append}
use Rattle.serde_json.specs.Data.{Data}
use Rattle.net_rules.specs.Firsts.{firsts}
use Rattle.net_view.specs.Places.{HasPlaces, is_place}
use Rattle.net_view.proofs.PortLemmas.{firsts_more}

pub shown_more : {X : Type 0} (key : X → List ℕ) (f : X → Data) (rows : List X) (places : BTreeMap (List ℕ) ℕ) (i : ℕ) (row : X) (old new : List Data) → HasPlaces places (map key rows) → i < length rows → row ≡ get_or rows i row → old
    ≡ map f (firsts key (take i rows)) → new ≡ old ++ map f (cond (is_place i (get (slice_cmp nat_cmp) places (key row))) (row ∷ []) []) → new ≡ map f (firsts key (take (i + 1) rows))
shown_more {X} key f rows places i row old new has within is sofar made =
    let more : List X = cond (is_place i (get (slice_cmp nat_cmp) places (key row))) (row ∷ []) [] in
    made
    ∙ ap (λ (z : List Data). z ++ map f more) sofar
    ∙ sym (map-append f (firsts key (take i rows)) more)
    ∙ sym (ap (map f) (firsts_more key rows places i row has within is))
