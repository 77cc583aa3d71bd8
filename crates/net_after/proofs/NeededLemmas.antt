-- Needs, one row after another.
use Rattle.std.proofs.Common.{◌≡◌, ℕ, ◌+◌, ◌<◌, List, [], ◌∷◌, ◌++◌, length, map, take, get_or, cond, Option, sym, ap, ◌∙◌}
use Rattle.std.specs.List.{filter_map}
use Rattle.std.specs.Ordering.{nat_cmp}
use Rattle.std.specs.Cmp.Lexicographic.{slice_cmp}
use Rattle.std.specs.BTreeMap.{BTreeMap, get}
use Rattle.std.proofs.lemmas.List.Elements.{filter_map-append}
use Rattle.net_rules.specs.Firsts.{firsts}
use Rattle.net_view.specs.Places.{HasPlaces, is_place}
use Rattle.net_view.proofs.PortLemmas.{firsts_more}

-- what the firsts give, with one row more
pub given_more : {X Y : Type 0} (key : X → List ℕ) (f : X → Option Y) (xs : List X) (places : BTreeMap (List ℕ) ℕ) (i : ℕ) (x : X) (old new : List Y) → HasPlaces places (map key xs) → i < length xs → x ≡ get_or xs i x → old
    ≡ filter_map f (firsts key (take i xs)) → new ≡ old ++ filter_map f (cond (is_place i (get (slice_cmp nat_cmp) places (key x))) (x ∷ []) []) → new ≡ filter_map f (firsts key (take (i + 1) xs))
given_more {X} {Y} key f xs places i x old new has within is sofar made =
    let one : List X = cond (is_place i (get (slice_cmp nat_cmp) places (key x))) (x ∷ []) [] in
    made
    ∙ ap (λ (z : List Y). z ++ filter_map f one) sofar
    ∙ sym (filter_map-append f (firsts key (take i xs)) one)
    ∙ sym (ap (filter_map f) (firsts_more key xs places i x has within is))
