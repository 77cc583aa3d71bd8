-- Places, each once, with one more or one less, and their marks.
use Rattle.std.proofs.Common.{arith, ◌≡◌, zero, suc, ◌-◌, ◌<◌, ◌≤◌, ℕ, take, replicate, List, [], ◌∷◌, ◌++◌, length, get_or, set, Bool, true, false, filter, eqb, refl, sym, ap, ◌∙◌, eqb-true, eq-eqb, ne_eqb, IsPermutation, IsSorted}
use Rattle.std.specs.Prelude.{◌||◌}
use Rattle.std.specs.List.{IsDistinct, AllByRecursion}
use Rattle.std.specs.List.Sorted.{IsStrictlySortedBy}
use Rattle.std.specs.Ordering.{nat_cmp}
use Rattle.std.specs.Cmp.{nat_eq_equiv}
use Rattle.std.proofs.lemmas.List.{get_or-set_same, get_or-set_other, length-set}
use Rattle.std.proofs.lemmas.List.Folds.{list_any-append}
use Rattle.std.proofs.lemmas.List.Sorted.{list_any-IsPermutation, IsNonDecreasingBy-from_sort}
use Rattle.std.proofs.lemmas.Map.Keys.{IsDistinct-push, IsDistinct-IsPermutation, IsStrictlyIncreasing-from_distinct, sorted_from_strictly_increasing}
use Rattle.net_reach.specs.Places.{Places, has, with_place, with_places}

-- ---- how many marks there are

abbrev pub marked : List Bool → ℕ
marked marks = length (filter (λ b. b) marks)

pub marked_within : (marks : List Bool) → marked marks ≤ length marks
marked_within [] = omega arith
marked_within (true ∷ marks) = let rest = marked_within marks in omega arith
marked_within (false ∷ marks) = let rest = marked_within marks in omega arith

pub one_marked : (marks : List Bool) (i : ℕ) → i < length marks → get_or marks i false ≡ false → marked (set marks i true) ≡ suc (marked marks)
one_marked [] i within was = absurd (omega arith)
one_marked (true ∷ marks) zero within was = cc was
one_marked (false ∷ marks) zero within was = refl
one_marked (true ∷ marks) (suc i) within was = ap suc (one_marked marks i (omega arith) was)
one_marked (false ∷ marks) (suc i) within was = one_marked marks i (omega arith) was

pub one_unmarked : (marks : List Bool) (i : ℕ) → get_or marks i false ≡ true → suc (marked (set marks i false)) ≡ marked marks
one_unmarked [] i was = cc was
one_unmarked (true ∷ marks) zero was = refl
one_unmarked (false ∷ marks) zero was = cc was
one_unmarked (true ∷ marks) (suc i) was = ap suc (one_unmarked marks i was)
one_unmarked (false ∷ marks) (suc i) was = one_unmarked marks i was

-- where one is not marked there is room for a mark more
pub room_for_one : (marks : List Bool) (i : ℕ) → i < length marks → get_or marks i false ≡ false → marked marks < length marks
room_for_one marks i within was =
    let more = one_marked marks i within was in
    let few = marked_within (set marks i true) in
    let same = length-set marks i true in
    omega arith

-- ---- one place more

has_last : (list : List ℕ) (i p : ℕ) → has (list ++ i ∷ []) p ≡ (has list p || eqb p i)
has_last list i p = list_any-append (eqb p) list (i ∷ []) ∙ ap (λ b. has list p || b) (alone (eqb p i))
  where
    alone : (b : Bool) → (b || false) ≡ b
    alone true = refl
    alone false = refl

or_true : (b : Bool) → (b || true) ≡ true
or_true true = refl
or_true false = refl

or_false : (b : Bool) → (b || false) ≡ b
or_false true = refl
or_false false = refl

pub marked_more : (marks : List Bool) (list : List ℕ) (i : ℕ) → ((p : ℕ) → get_or marks p false ≡ has list p) → i < length marks → (p : ℕ) → get_or (set marks i true) p false ≡ has (list ++ i ∷ []) p
marked_more marks list i is within p = at (eqb p i) refl
  where
    at : (b : Bool) → eqb p i ≡ b → get_or (set marks i true) p false ≡ has (list ++ i ∷ []) p
    at true h =
        let same : p ≡ i = eqb-true p i h in
        ap (λ k. get_or (set marks i true) k false) same
        ∙ get_or-set_same marks i true false within
        ∙ sym (has_last list i p ∙ ap (λ b. has list p || b) h ∙ or_true (has list p))
    at false h =
        get_or-set_other marks i p true false (λ same. cc (sym h ∙ eq-eqb p i same))
        ∙ is p
        ∙ sym (has_last list i p ∙ ap (λ b. has list p || b) h ∙ or_false (has list p))

pub once_more : (list : List ℕ) (i : ℕ) → IsDistinct eqb list → has list i ≡ false → IsDistinct eqb (list ++ i ∷ [])
once_more list i once off = IsDistinct-push nat_eq_equiv list i once off

-- ---- one place less

any_off : (i : ℕ) (list : List ℕ) → AllByRecursion (λ y. eqb i y ≡ false) list → has list i ≡ false
any_off i [] off = refl
any_off i (y ∷ list) off = ap (λ b. b || has list i) off.0 ∙ any_off i list off.1

fewer_off : (i : ℕ) (list : List ℕ) (p : ℕ) → AllByRecursion (λ y. eqb i y ≡ false) (list ++ p ∷ []) → AllByRecursion (λ y. eqb i y ≡ false) list × (eqb i p ≡ false)
fewer_off i [] p off = (tt, off.0)
fewer_off i (y ∷ list) p off = let rest = fewer_off i list p off.1 in ((off.0, rest.0), rest.1)

flipped : (a b : ℕ) (c : Bool) → eqb a b ≡ c → eqb b a ≡ c
flipped a b true h = eq-eqb b a (sym (eqb-true a b h))
flipped a b false h = ne_eqb b a (λ same. cc (sym h ∙ eq-eqb a b (sym same)))

pub once_less : (list : List ℕ) (i : ℕ) → IsDistinct eqb (list ++ i ∷ []) → IsDistinct eqb list × (has list i ≡ false)
unfolding IsDistinct
once_less [] i once = (tt, refl)
once_less (y ∷ list) i once =
    let rest = once_less list i once.1 in
    let off = fewer_off y list i once.0 in
    ((off.0, rest.0), ap (λ b. b || has list i) (flipped y i false off.1) ∙ rest.1)

was_marked : (marks : List Bool) (list : List ℕ) (i : ℕ) → ((p : ℕ) → get_or marks p false ≡ has (list ++ i ∷ []) p) → get_or marks i false ≡ true
was_marked marks list i is = is i ∙ has_last list i i ∙ ap (λ b. has list i || b) (eq-eqb i i refl) ∙ or_true (has list i)

within_marks : (marks : List Bool) (i : ℕ) → get_or marks i false ≡ true → i < length marks
within_marks [] i h = cc h
within_marks (b ∷ marks) zero h = omega arith
within_marks (b ∷ marks) (suc i) h = let rest = within_marks marks i h in omega arith

pub marked_less : (marks : List Bool) (list : List ℕ) (i : ℕ) → ((p : ℕ) → get_or marks p false ≡ has (list ++ i ∷ []) p) → has list i ≡ false → (p : ℕ) → get_or (set marks i false) p false ≡ has list p
marked_less marks list i is off p = at (eqb p i) refl
  where
    at : (b : Bool) → eqb p i ≡ b → get_or (set marks i false) p false ≡ has list p
    at true h =
        let same : p ≡ i = eqb-true p i h in
        ap (λ k. get_or (set marks i false) k false) same
        ∙ get_or-set_same marks i false false (within_marks marks i (was_marked marks list i is))
        ∙ sym (ap (has list) same ∙ off)
    at false h =
        get_or-set_other marks i p false false (λ same. cc (sym h ∙ eq-eqb p i same))
        ∙ is p
        ∙ has_last list i p ∙ ap (λ b. has list p || b) h ∙ or_false (has list p)

pub popped_within : (marks : List Bool) (list : List ℕ) (i : ℕ) → ((p : ℕ) → get_or marks p false ≡ has (list ++ i ∷ []) p) → i < length marks
popped_within marks list i is = within_marks marks i (was_marked marks list i is)

pub count_less : (marks : List Bool) (list : List ℕ) (i : ℕ) → ((p : ℕ) → get_or marks p false ≡ has (list ++ i ∷ []) p) → suc (marked (set marks i false)) ≡ marked marks
count_less marks list i is = one_unmarked marks i (was_marked marks list i is)

-- ---- in order

either : (a b : ℕ) → eqb a b ≡ eqb b a
either a b = sym (flipped a b (eqb a b) refl)

pub has_sorted : (old new : List ℕ) → IsPermutation old new → (p : ℕ) → has old p ≡ has new p
has_sorted old new same p = list_any-IsPermutation (eqb p) old new same

pub once_sorted : (old new : List ℕ) → IsPermutation old new → IsDistinct eqb old → IsDistinct eqb new
once_sorted old new same once = IsDistinct-IsPermutation eqb either old new same once

pub rising_once : (list : List ℕ) → IsSorted nat_cmp list → IsDistinct eqb list → IsStrictlySortedBy nat_cmp list
rising_once list sorted once = sorted_from_strictly_increasing list (IsStrictlyIncreasing-from_distinct list (IsNonDecreasingBy-from_sort (λ x. x) list sorted) once)

-- ---- a new set, and several places more

pub with_one_more : (set : Places) (front : List ℕ) (place : ℕ) → with_places set (front ++ place ∷ []) ≡ with_place (with_places set front) place
with_one_more set [] place = refl
with_one_more set (x ∷ front) place = with_one_more (with_place set x) front place

none_before : (n : ℕ) → ◌≡◌ {A = List Bool} (take n []) []
none_before zero = refl
none_before (suc n) = refl

pub all_unmarked : (n len : ℕ) (old new : List Bool) → old ≡ [] → len ≡ 0 → new ≡ take n old ++ replicate (n - len) false → new ≡ replicate n false
all_unmarked n len old new none empty is =
    let whole : n - len ≡ n = omega arith in
    is
    ∙ ap (λ (z : List Bool). take n z ++ replicate (n - len) false) none
    ∙ ap (λ (z : List Bool). z ++ replicate (n - len) false) (none_before n)
    ∙ ap (λ k. replicate k false) whole

pub none_marked : (n : ℕ) → marked (replicate n false) ≡ 0
none_marked zero = refl
none_marked (suc n) = none_marked n

pub unmarked_at : (n p : ℕ) → get_or (replicate n false) p false ≡ false
unmarked_at zero p = refl
unmarked_at (suc n) zero = refl
unmarked_at (suc n) (suc p) = unmarked_at n p

pub nothing_twice : IsDistinct eqb []
unfolding IsDistinct
nothing_twice = tt
