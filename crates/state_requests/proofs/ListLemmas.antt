-- Lists in which one item becomes another, and rising places.
use Rattle.std.proofs.Common.{arith, ℕ, zero, suc, ◌≡◌, ◌≤◌, ◌<◌, ◌+◌, List, [], ◌∷◌, length, get_or, take, true, false, Contains, Option, Some, None, refl, ap, sym, subst, ◌∙◌}
use Rattle.std.specs.Prelude.{◌||◌, ◌==◌, filter_map, slice_get, slice_set}
use Rattle.std.specs.List.{cons_option}
use Rattle.std.proofs.lemmas.Bool.Decides.{Decides-eqb}
use Rattle.kern_model.proofs.MemberLemmas.{here, there}
use Rattle.kern_model.proofs.TestLemmas.{false_of_not, of_any}
use Rattle.net_rules.specs.Numbers.{AreRising}
use Rattle.net_rules.proofs.TouchNumberLemmas.{between}
use Rattle.asked_places.specs.Touched.{has}

-- ---- one item becomes another

pub set_here : {X : Type 0} (xs : List X) (i : ℕ) (x y : X) → slice_get xs i ≡ Some x → slice_get (slice_set xs i y) i ≡ Some y
set_here [] i x y is = cc is
set_here (z ∷ zs) zero x y is = refl
set_here (z ∷ zs) (suc i) x y is = set_here zs i x y is

pub set_other : {X : Type 0} (xs : List X) (i j : ℕ) (y : X) → (j ≡ i → ⊥) → slice_get (slice_set xs i y) j ≡ slice_get xs j
set_other [] i j y other = refl
set_other (z ∷ zs) zero zero y other = absurd (other refl)
set_other (z ∷ zs) zero (suc j) y other = refl
set_other (z ∷ zs) (suc i) zero y other = refl
set_other (z ∷ zs) (suc i) (suc j) y other = set_other zs i j y (λ same. other (ap suc same))

pub set_size : {X : Type 0} (xs : List X) (i : ℕ) (y : X) → length (slice_set xs i y) ≡ length xs
set_size [] i y = refl
set_size (z ∷ zs) zero y = refl
set_size (z ∷ zs) (suc i) y = ap suc (set_size zs i y)

-- within a list there is an item
pub item_at : {X : Type 0} (xs : List X) (i : ℕ) → i < length xs → (x : X) × (slice_get xs i ≡ Some x)
item_at [] i within = absurd (omega (arith, within))
item_at (z ∷ zs) zero within = (z, refl)
item_at (z ∷ zs) (suc i) within = item_at zs i (omega (arith, within))

-- what was read at a place stands there
pub read_at : {X : Type 0} (xs : List X) (i : ℕ) (x : X) → i < length xs → x ≡ get_or xs i x → slice_get xs i ≡ Some x
read_at [] i x within is = absurd (omega (arith, within))
read_at (z ∷ zs) zero x within is = ap (λ y. Some y) (sym is)
read_at (z ∷ zs) (suc i) x within is = read_at zs i x (omega (arith, within)) is

-- ---- rising places

pub nth_member : (xs : List ℕ) (i : ℕ) → i < length xs → Contains xs (get_or xs i 0)
nth_member [] i within = absurd (omega (arith, within))
nth_member (x ∷ xs) zero within = here x xs
nth_member (x ∷ xs) (suc i) within = there x xs (get_or xs i 0) (nth_member xs i (omega (arith, within)))

pub has_nth : (xs : List ℕ) (i : ℕ) → i < length xs → has xs (get_or xs i 0) ≡ true
has_nth xs i within =
    let p = get_or xs i 0 in
    of_any (λ other. p == other) xs p (nth_member xs i within) ((Decides-eqb p p).1 refl)

-- a place is not among those before it
pub not_before : (least bound : ℕ) (xs : List ℕ) (i : ℕ) → AreRising least bound xs → i < length xs → has (take i xs) (get_or xs i 0) ≡ false
not_before least bound [] i rising within = absurd (omega (arith, within))
not_before least bound (x ∷ xs) zero rising within = refl
not_before least bound (x ∷ xs) (suc i) rising within =
    let p = get_or xs i 0 in
    let above = (between (x + 1) bound xs p rising.2 (nth_member xs i (omega (arith, within)))).0 in
    ap (λ b. b || has (take i xs) p) (false_of_not (p == x) (λ h. let same = (Decides-eqb p x).0 h in absurd (omega (arith, above, same))))
    ∙ not_before (x + 1) bound xs i rising.2 (omega (arith, within))

-- rising places are no more than their bound
few : (least bound : ℕ) (xs : List ℕ) → AreRising least bound xs → least ≤ bound → least + length xs ≤ bound
few least bound [] rising within = omega (arith, within)
few least bound (x ∷ xs) rising within =
    let low = rising.0 in
    let high = rising.1 in
    let rest = few (x + 1) bound xs rising.2 (omega (arith, high)) in
    omega (arith, low, rest)

pub few_places : (bound : ℕ) (xs : List ℕ) → AreRising 0 bound xs → length xs ≤ bound
few_places bound xs rising = let all = few 0 bound xs rising (omega arith) in omega (arith, all)

pub nth_below : (bound : ℕ) (xs : List ℕ) (i : ℕ) → AreRising 0 bound xs → i < length xs → get_or xs i 0 < bound
nth_below bound xs i rising within = (between 0 bound xs (get_or xs i 0) rising (nth_member xs i within)).1

-- ---- what items give

pub few_given : {X Y : Type 0} (f : X → Option Y) (xs : List X) → length (filter_map f xs) ≤ length xs
few_given f [] = omega arith
few_given {X} {Y} f (x ∷ xs) = by (f x) (few_given f xs)
  where
    by : (o : Option Y) → length (filter_map f xs) ≤ length xs → length (cons_option o (filter_map f xs)) ≤ suc (length xs)
    by None rest = omega (arith, rest)
    by (Some y) rest = omega (arith, rest)
