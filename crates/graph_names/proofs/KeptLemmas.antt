-- names that are kept one after another
use Rattle.std.proofs.Common.{arith, ⊎_elim, ℕ, zero, suc, ◌+◌, ◌<◌, ◌≡◌, ◌≢◌, cond, List, [], ◌∷◌, ◌++◌, map, length, take, Contains, Option, Some, None, bytes_eq, position, slice_index_or, refl, sym, ap, subst, ◌∙◌}
use Rattle.std.specs.Option.{option_map}
use Rattle.std.proofs.lemmas.List.{map-append, take_more, append_assoc}
use Rattle.std.proofs.lemmas.List.Elements.{Contains-append_left, Contains-append_right}
use Rattle.kern_model.specs.declared.object.Device.{Device}
use Rattle.kern_model.proofs.MemberLemmas.{here, there, first_or_later, none_in_nil, member_of_all, all_members}
use Rattle.kern_model.proofs.TestLemmas.{bytes_same, false_of_not}
use Rattle.uci_tree.proofs.FoldLemmas.{position-cons}
use Rattle.plane_words.specs.Distinct.{AreDistinct}
use Rattle.graph_rules.specs.State.{Named, name_list, place_among, device_among, claims_among}
use Rattle.graph_rules.specs.After.{kept_name, kept_names}
use Rattle.graph_names.specs.declared.names.Told.{Told}
use Rattle.graph_names.specs.Table.{named, with_told}

at_member : (names : List (List ℕ)) (k : ℕ) → k < length names → Contains names (slice_index_or names k [])
at_member [] k h = absurd (omega (arith, h))
at_member (n ∷ ns) zero h = here n ns
at_member (n ∷ ns) (suc k) h = there n ns (slice_index_or ns k []) (at_member ns k (omega (arith, h)))

-- of distinct names none stands before its place, behind others or not
pub fresh : (front names : List (List ℕ)) (k : ℕ) → AreDistinct (front ++ names) → k < length names → Contains (front ++ take k names) (slice_index_or names k []) → ⊥
fresh [] [] k d h m = omega (arith, h)
fresh [] (n ∷ ns) zero d h m = none_in_nil n m
fresh [] (n ∷ ns) (suc k) d h m =
    let x = slice_index_or ns k [] in
    let inside : k < length ns = omega (arith, h) in
    ⊎_elim
    (λ (same : n ≡ x). member_of_all (λ y. y ≢ n) ns x d.0 (at_member ns k inside) (sym same))
    (λ (later : Contains (take k ns) x). fresh [] ns k d.1 inside later)
    (first_or_later n (take k ns) x m)
fresh (f ∷ fs) names k d h m =
    let x = slice_index_or names k [] in
    ⊎_elim
    (λ (same : f ≡ x). member_of_all (λ y. y ≢ f) (fs ++ names) x d.0 (Contains-append_right fs names x (at_member names k h)) (sym same))
    (λ (later : Contains (fs ++ take k names) x). fresh fs names k d.1 h later)
    (first_or_later f (fs ++ take k names) x m)

-- what does not stand in a list has no place in it
no_place : (names : List (List ℕ)) (x : List ℕ) → (Contains names x → ⊥) → position (bytes_eq x) names ≡ None
no_place [] x h = refl
no_place (n ∷ ns) x h =
    position-cons (bytes_eq x) n ns
    ∙ ap (λ b. cond {A = Option ℕ} b (Some 0) (option_map (λ k. suc k) (position (bytes_eq x) ns))) (false_of_not (bytes_eq x n) (λ yes. h (subst (Contains (n ∷ ns)) (sym (bytes_same x n yes)) (here n ns))))
    ∙ ap (option_map (λ k. suc k)) (no_place ns x (λ later. h (there n ns x later)))

names_kept : (old : List Named) (names : List (List ℕ)) → name_list (kept_names old names) ≡ names
names_kept old [] = refl
names_kept old (n ∷ ns) = ap (λ (xs : List (List ℕ)). n ∷ xs) (names_kept old ns)

pub no_place_yet : (old : List Named) (front names : List (List ℕ)) (k : ℕ) (x : List ℕ) → AreDistinct (front ++ names) → k < length names → slice_index_or names k [] ≡ x → place_among (kept_names old (front ++ take k names)) x ≡ None
no_place_yet old front names k x d h is =
    ap (position (bytes_eq x)) (names_kept old (front ++ take k names))
    ∙ no_place (front ++ take k names) x (λ m. fresh front names k d h (subst (Contains (front ++ take k names)) (sym is) m))

told_is : (old : List Named) (x : List ℕ) (told : Told) → told.device ≡ device_among old x → told.claims ≡ claims_among old x → named x told ≡ kept_name old x
told_is old x told has claimed =
    ap (λ (d : Option Device). let n : Named = record { name = x; device = d; claims = told.claims } in n) has
    ∙ ap (λ (m : ℕ). let n : Named = record { name = x; device = device_among old x; claims = m } in n) claimed

-- one more name is kept
pub kept_more : (old : List Named) (front names : List (List ℕ)) (k : ℕ) (x : List ℕ) (told : Told) → k < length names → slice_index_or names k [] ≡ x → told.device ≡ device_among old x → told.claims ≡ claims_among old x
    → with_told (kept_names old (front ++ take k names)) x told ≡ kept_names old (front ++ take (k + 1) names)
kept_more old front names k x told h is has claimed =
    let done = front ++ take k names in
    let all : front ++ take (k + 1) names ≡ done ++ x ∷ [] =
    ap (λ ns. front ++ ns) (take_more names k [] h ∙ ap (λ n. take k names ++ n ∷ []) is) ∙ sym (append_assoc front (take k names) (x ∷ [])) in
    ap (λ n. kept_names old done ++ n ∷ []) (told_is old x told has claimed)
    ∙ sym (map-append (kept_name old) done (x ∷ []))
    ∙ sym (ap (kept_names old) all)

-- the name of the item at a place
pub name_there : {X : Type 0} (name_of : X → List ℕ) (xs : List X) (k : ℕ) (x : X) → k < length xs → x ≡ slice_index_or xs k x → slice_index_or (map name_of xs) k [] ≡ name_of x
name_there name_of [] k x h is = absurd (omega (arith, h))
name_there name_of (y ∷ ys) zero x h is = ap name_of (sym is)
name_there name_of (y ∷ ys) (suc k) x h is = name_there name_of ys k x (omega (arith, h)) is

pub item_there : (names : List (List ℕ)) (k : ℕ) (x : List ℕ) → k < length names → x ≡ slice_index_or names k x → slice_index_or names k [] ≡ x
item_there [] k x h is = absurd (omega (arith, h))
item_there (n ∷ ns) zero x h is = sym is
item_there (n ∷ ns) (suc k) x h is = item_there ns k x (omega (arith, h)) is

-- the front of distinct names is distinct
pub distinct_front : (xs ys : List (List ℕ)) → AreDistinct (xs ++ ys) → AreDistinct xs
distinct_front [] ys d = tt
distinct_front (n ∷ ns) ys d = (all_members (λ y. y ≢ n) ns (λ y m. member_of_all (λ z. z ≢ n) (ns ++ ys) y d.0 (Contains-append_left ns ys y m)), distinct_front ns ys d.1)
