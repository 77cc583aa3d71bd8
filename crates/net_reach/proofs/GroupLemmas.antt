-- Lists of places by name, with one place more.
use Rattle.std.proofs.Common.{arith, ◌≡◌, zero, suc, ◌+◌, ◌-◌, ◌<◌, ◌≤◌, ℕ, List, [], ◌∷◌, ◌++◌, length, take, get_or, slice_get, Bool, true, false, cond, Contains, inl, inr, Option, Some, None, refl, sym, ap, subst, ◌∙◌, append-nil}
use Rattle.std.proofs.Common.{eq-eqb, ne_eqb, bytes_eq}
use Rattle.std.specs.Prelude.{◌||◌}
use Rattle.std.specs.List.{list_any}
use Rattle.std.proofs.lemmas.List.{length-take-le, length_push}
use Rattle.std.proofs.lemmas.Option.{slice_get_within, get_or_from_slice_get}
use Rattle.kern_model.proofs.MemberLemmas.{first_or_later, none_in_nil, here, there}
use Rattle.kern_model.proofs.TestLemmas.{bytes_same}
use Rattle.net_view.specs.Places.{is_place}
use Rattle.net_view.specs.RadioPorts.{group_in}
use Rattle.net_view.proofs.PortLemmas.{more_is}
use Rattle.net_view.proofs.NameLemmas.{any_more}
use Rattle.net_reach.specs.Places.{places_from, places_by}
use Rattle.net_reach.specs.Groups.{Groups, is_last, with_last, HasGroups, AreMembers, Gains, AreBelow}

-- ---- the places of items that a test tells

push_step : (b : Bool) (count : ℕ) (one other last : List ℕ) → one ≡ other ++ last → cond b (count ∷ one) one ≡ cond b (count ∷ other) other ++ last
push_step true count one other last h = ap (λ (z : List ℕ). count ∷ z) h
push_step false count one other last h = h

places_push : {X : Type 0} (test : X → Bool) (count : ℕ) → (xs : List X) (x : X) → places_from count test (xs ++ x ∷ []) ≡ places_from count test xs ++ cond (test x) ((count + length xs) ∷ []) []
places_push test count [] x = let same : count ≡ count + 0 = omega arith in ap (λ k. cond (test x) (k ∷ []) []) same
places_push {X} test count (y ∷ ys) x =
    let same : suc count + length ys ≡ count + length (y ∷ ys) = omega arith in
    push_step (test y) count (places_from (suc count) test (ys ++ x ∷ [])) (places_from (suc count) test ys) (cond (test x) ((count + length (y ∷ ys)) ∷ []) [])
    (places_push test (suc count) ys x ∙ ap (λ k. places_from (suc count) test ys ++ cond (test x) (k ∷ []) []) same)

places_more : {X : Type 0} (test : X → Bool) (xs : List X) (i : ℕ) (x : X) → i < length xs → x ≡ get_or xs i x → places_by test (take (i + 1) xs) ≡ places_by test (take i xs) ++ cond (test x) (i ∷ []) []
places_more {X} test xs i x within is =
    let size = length-take-le i xs (omega arith) in
    let same : 0 + length (take i xs) ≡ i = omega arith in
    ap (places_by test) (more_is xs i x within is)
    ∙ places_push test 0 (take i xs) x
    ∙ ap (λ k. places_by test (take i xs) ++ cond (test x) (k ∷ []) []) same

pub groups_more : {X : Type 0} (test : List ℕ → X → Bool) (xs : List X) (old new : Groups) (i : ℕ) (x : X) → i < length xs → x ≡ get_or xs i x → HasGroups old test (take i xs) → Gains old new (λ q. test q x) i
    → HasGroups new test (take (i + 1) xs)
groups_more {X} test xs old new i x within is before gains q =
    gains q
    ∙ ap (λ (z : List ℕ). z ++ cond (test q x) (i ∷ []) []) (before q)
    ∙ sym (places_more (test q) xs i x within is)

in_step : (b : Bool) (count told : ℕ) (rest : List ℕ) → Contains rest told → Contains (cond b (count ∷ rest) rest) told
in_step true count told rest h = there count rest told h
in_step false count told rest h = h

in_places : {X : Type 0} (test : X → Bool) (count : ℕ) → (xs : List X) (place : ℕ) (x : X) → slice_get xs place ≡ Some x → test x ≡ true → Contains (places_from count test xs) (count + place)
in_places test count [] place x is passes = cc is
in_places {X} test count (y ∷ ys) zero x is passes =
    let same : y ≡ x = cc is in
    let here_is : test y ≡ true = ap test same ∙ passes in
    let none : count ≡ count + 0 = omega arith in
    subst (λ (b : Bool). Contains (cond b (count ∷ places_from (suc count) test ys) (places_from (suc count) test ys)) (count + 0)) (sym here_is)
    (subst (Contains (count ∷ places_from (suc count) test ys)) none (here count (places_from (suc count) test ys)))
in_places {X} test count (y ∷ ys) (suc place) x is passes =
    let same : suc count + place ≡ count + suc place = omega arith in
    in_step (test y) count (count + suc place) (places_from (suc count) test ys)
    (subst (Contains (places_from (suc count) test ys)) same (in_places test (suc count) ys place x is passes))

-- what is at a place that is told
pub record IsTold {X : Type 0} (test : X → Bool) (count : ℕ) (xs : List X) (told : ℕ) : Type 0 where
  pub place : ℕ
  pub is : told ≡ count + place
  pub item : X
  pub found : slice_get xs place ≡ Some item
  pub passes : test item ≡ true

told_later : {X : Type 0} (test : X → Bool) (count : ℕ) (y : X) (ys : List X) (told : ℕ) → IsTold test (suc count) ys told → IsTold test count (y ∷ ys) told
told_later test count y ys told found =
    let is = found.is in
    record { place = suc found.place; is = omega arith; item = found.item; found = found.found; passes = found.passes }

of_step : {X : Type 0} (test : X → Bool) (count : ℕ) (y : X) (ys : List X) (told : ℕ) (b : Bool) → test y ≡ b → (Contains (places_from (suc count) test ys) told → IsTold test (suc count) ys told)
    → Contains (cond b (count ∷ places_from (suc count) test ys) (places_from (suc count) test ys)) told → IsTold test count (y ∷ ys) told
of_step test count y ys told true h later inside =
    elim (first_or_later count (places_from (suc count) test ys) told inside) as (λ _. IsTold test count (y ∷ ys) told) [
      | inl same ↦ record { place = 0; is = omega arith; item = y; found = refl; passes = h }
      | inr behind ↦ told_later test count y ys told (later behind)
    ]
of_step test count y ys told false h later inside = told_later test count y ys told (later inside)

of_places : {X : Type 0} (test : X → Bool) (count : ℕ) → (xs : List X) (told : ℕ) → Contains (places_from count test xs) told → IsTold test count xs told
of_places test count [] told inside = absurd (none_in_nil told inside)
of_places {X} test count (y ∷ ys) told inside = of_step test count y ys told (test y) refl (of_places test (suc count) ys told) inside

pub members_of : {X : Type 0} (places : List ℕ) (test : X → Bool) (xs : List X) → places ≡ places_by test xs → AreMembers places (λ place x. test x) xs
members_of {X} places test xs are = record {
  all = λ place x found passes.
      let same : 0 + place ≡ place = omega arith in
      subst (λ (z : List ℕ). Contains z place) (sym are) (subst (Contains (places_by test xs)) same (in_places test 0 xs place x found passes));
  only = λ place inside.
      let told = of_places test 0 xs place (subst (λ (z : List ℕ). Contains z place) are inside) in
      let same : told.place ≡ place = let is = told.is in omega arith in
      (told.item, subst (λ k. slice_get xs k ≡ Some told.item) same told.found, told.passes);
}

pub groups_below : {X : Type 0} (test : List ℕ → X → Bool) (xs : List X) (groups : Groups) (i : ℕ) → i ≤ length xs → HasGroups groups test (take i xs) → AreBelow groups i
groups_below {X} test xs groups i within has q place inside =
    let found = (members_of (group_in groups q) (test q) (take i xs) (has q)).only place inside in
    let low = slice_get_within (take i xs) place found.0 found.1 in
    let size = length-take-le i xs within in
    omega arith

-- ---- one place more at some names

pub gains_none : (groups : Groups) (test : List ℕ → Bool) (place : ℕ) → ((q : List ℕ) → test q ≡ false) → Gains groups groups test place
gains_none groups test place none q = sym (ap (λ b. group_in groups q ++ cond b (place ∷ []) []) (none q) ∙ append-nil (group_in groups q))

pub gains_as : (old new : Groups) (test other : List ℕ → Bool) (place : ℕ) → Gains old new test place → ((q : List ℕ) → other q ≡ test q) → Gains old new other place
gains_as old new test other place gains same q = gains q ∙ ap (λ b. group_in old q ++ cond b (place ∷ []) []) (sym (same q))

at_end : (list : List ℕ) (place : ℕ) → slice_get (list ++ place ∷ []) (length list) ≡ Some place
at_end [] place = refl
at_end (x ∷ list) place = at_end list place

last_there : (list : List ℕ) (place : ℕ) → is_last (list ++ place ∷ []) place ≡ true
last_there list place =
    let size = length_push list place in
    let at : length (list ++ place ∷ []) - 1 ≡ length list = omega arith in
    ap (λ k. is_place place (slice_get (list ++ place ∷ []) k)) at
    ∙ ap (is_place place) (at_end list place)
    ∙ eq-eqb place place refl

last_off : (list : List ℕ) (place : ℕ) → ((p : ℕ) → Contains list p → p < place) → is_last list place ≡ false
last_off list place below = at (slice_get list (length list - 1)) refl
  where
    at : (o : Option ℕ) → slice_get list (length list - 1) ≡ o → is_place place o ≡ false
    at None h = refl
    at (Some p) h =
        let turn = length list - 1 in
        let low = below p (turn, slice_get_within list turn p h, get_or_from_slice_get list turn p p h) in
        ne_eqb p place (omega arith)

with_last_is : (list : List ℕ) (place : ℕ) (b : Bool) → ((p : ℕ) → Contains list p → p < place) → with_last (list ++ cond b (place ∷ []) []) place ≡ list ++ place ∷ []
with_last_is list place true below = ap (λ c. cond c (list ++ place ∷ []) ((list ++ place ∷ []) ++ place ∷ [])) (last_there list place)
with_last_is list place false below =
    ap (λ (z : List ℕ). with_last z place) (append-nil list)
    ∙ ap (λ c. cond c list (list ++ place ∷ [])) (last_off list place below)

pub last_more : (before old new : Groups) (at : List ℕ → Bool) (name : List ℕ) (place : ℕ) → AreBelow before place → Gains before old at place
    → ((q : List ℕ) → group_in new q ≡ cond (bytes_eq name q) (with_last (group_in old q) place) (group_in old q)) → Gains before new (λ q. at q || bytes_eq name q) place
last_more before old new at name place below gains put q = put q ∙ step (bytes_eq name q)
  where
    or_true : (b : Bool) → (b || true) ≡ true
    or_true true = refl
    or_true false = refl

    or_false : (b : Bool) → (b || false) ≡ b
    or_false true = refl
    or_false false = refl

    step : (b : Bool) → cond b (with_last (group_in old q) place) (group_in old q) ≡ group_in before q ++ cond (at q || b) (place ∷ []) []
    step true =
        ap (λ (z : List ℕ). with_last z place) (gains q)
        ∙ with_last_is (group_in before q) place (at q) (below q)
        ∙ sym (ap (λ c. group_in before q ++ cond c (place ∷ []) []) (or_true (at q)))
    step false = gains q ∙ sym (ap (λ c. group_in before q ++ cond c (place ∷ []) []) (or_false (at q)))

pub kept_last : (groups : Groups) (name : List ℕ) (place : ℕ) → is_last (group_in groups name) place ≡ true → (q : List ℕ) → group_in groups q ≡ cond (bytes_eq name q) (with_last (group_in groups q) place) (group_in groups q)
kept_last groups name place last q = step (bytes_eq name q) refl
  where
    step : (b : Bool) → bytes_eq name q ≡ b → group_in groups q ≡ cond b (with_last (group_in groups q) place) (group_in groups q)
    step true h = sym (ap (λ c. cond c (group_in groups q) (group_in groups q ++ place ∷ [])) (ap (λ (z : List ℕ). is_last (group_in groups z) place) (sym (bytes_same name q h)) ∙ last))
    step false h = refl

pub new_last : (old new : Groups) (name : List ℕ) (place : ℕ) → is_last (group_in old name) place ≡ false → ((q : List ℕ) → group_in new q ≡ group_in old q ++ cond (bytes_eq name q) (place ∷ []) []) → (q : List ℕ) → group_in new q
    ≡ cond (bytes_eq name q) (with_last (group_in old q) place) (group_in old q)
new_last old new name place off put q = put q ∙ step (bytes_eq name q) refl
  where
    step : (b : Bool) → bytes_eq name q ≡ b → group_in old q ++ cond b (place ∷ []) [] ≡ cond b (with_last (group_in old q) place) (group_in old q)
    step true h = sym (ap (λ c. cond c (group_in old q) (group_in old q ++ place ∷ [])) (ap (λ (z : List ℕ). is_last (group_in old z) place) (sym (bytes_same name q h)) ∙ off))
    step false h = append-nil (group_in old q)

-- a place at one name more of several
pub gains_next : (before old new : Groups) (at : List ℕ → Bool) (place : ℕ) (names : List (List ℕ)) (i : ℕ) (name : List ℕ) → i < length names → name ≡ get_or names i name → AreBelow before place
    → Gains before old (λ q. at q || list_any (λ n. bytes_eq n q) (take i names)) place → ((q : List ℕ) → group_in new q ≡ cond (bytes_eq name q) (with_last (group_in old q) place) (group_in old q))
    → Gains before new (λ q. at q || list_any (λ n. bytes_eq n q) (take (i + 1) names)) place
gains_next before old new at place names i name within is below gains put =
    gains_as before new (λ q. (at q || list_any (λ n. bytes_eq n q) (take i names)) || bytes_eq name q) (λ q. at q || list_any (λ n. bytes_eq n q) (take (i + 1) names)) place
    (last_more before old new (λ q. at q || list_any (λ n. bytes_eq n q) (take i names)) name place below gains put)
    (λ q. ap (λ b. at q || b) (any_more (λ n. bytes_eq n q) names i name within is) ∙ sym (assoc (at q) (list_any (λ n. bytes_eq n q) (take i names)) (bytes_eq name q)))
  where
    assoc : (a b c : Bool) → ((a || b) || c) ≡ (a || (b || c))
    assoc true b c = refl
    assoc false b c = refl

pub gains_first : (before old : Groups) (at : List ℕ → Bool) (place : ℕ) → Gains before old at place → Gains before old (λ q. at q || false) place
gains_first before old at place gains = gains_as before old at (λ q. at q || false) place gains (λ q. none (at q))
  where
    none : (b : Bool) → (b || false) ≡ b
    none true = refl
    none false = refl
