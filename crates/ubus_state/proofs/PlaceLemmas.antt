-- Where a row stands.
use Rattle.std.proofs.Common.{arith, ℕ, zero, suc, ◌≡◌, ◌<◌, ◌≤◌, ◌+◌, ◌==◌, List, [], ◌∷◌, length, get_or, ltb, Bor, Bool, true, false, Option, Some, None, refl, ap, sym, subst, ◌∙◌}
use Rattle.std.specs.Prelude.{if◌then◌else◌, filter, unwrap_or}
use Rattle.std.specs.List.{All, find, position, position_from}
use Rattle.std.specs.Slice.{IsItemAt}
use Rattle.std.proofs.lemmas.Bool.Decides.{nat_tests}
use Rattle.std.proofs.lemmas.List.{get_or_default}
use Rattle.std.proofs.lemmas.Iterator.Adapters.{position_from-zero}
use Rattle.std.proofs.lemmas.List.Elements.{All-head, All-tail}
use Rattle.ubus_state.specs.Rising.{Rise}
use Rattle.ubus_state.proofs.RisingLemmas.{Climbs, Parts, climbs, above_differs, below_differs}

none_at_all : {X : Type 0} (p : X → Bool) (rows : List X) (i : ℕ) → All (λ row. p row ≡ false) rows → position_from p i rows ≡ None
none_at_all p [] i none = refl
none_at_all {X} p (row ∷ rows) i none =
    ap (λ (b : Bool). if b then Some i else position_from p (i + 1) rows) (All-head (λ (x : X). p x ≡ false) row rows none)
    ∙ none_at_all p rows (i + 1) (All-tail (λ (x : X). p x ≡ false) row rows none)

at_place_from : {X : Type 0} (number : X → ℕ) (target : ℕ) (rows : List X) (place i : ℕ) (d : X)
    → ((k : ℕ) (d : X) → k < place → number (get_or rows k d) < target) → (number (get_or rows place d) == target) ≡ true → place < length rows
    → position_from (λ row. number row == target) i rows ≡ Some (i + place)
at_place_from number target [] place i d below is within = absurd (omega arith)
at_place_from number target (row ∷ rows) zero i d below is within =
    ap (λ (b : Bool). if b then Some i else position_from (λ other. number other == target) (i + 1) rows) is ∙ ap Some (omega arith)
at_place_from number target (row ∷ rows) (suc place) i d below is within =
    ap (λ (b : Bool). if b then Some i else position_from (λ other. number other == target) (i + 1) rows) (below_differs (number row) target (below 0 row (omega arith)))
    ∙ at_place_from number target rows place (i + 1) d (λ k d lower. below (suc k) d (omega arith)) is (omega arith)
    ∙ ap Some (omega arith)

-- the row at a place before which the numbers are lower stands there, where it has the number
pub place_at : {X : Type 0} (number : X → ℕ) (target : ℕ) (rows : List X) (place : ℕ) (row : Bor X) → Rise number rows → Parts number target rows place
    → IsItemAt rows place (Some row) → position (λ other. number other == target) rows ≡ (if number row.now == target then Some place else None)
place_at {X} number target rows place row rise parts read = position_from-zero (λ other. number other == target) rows ∙ by_test (number row.now == target) refl
  where
    is : row.now ≡ get_or rows place row.now
    is = read.1

    within : place < length rows
    within = read.3.0

    whole : 0 + place ≡ place
    whole = omega arith

    differs : (number row.now == target) ≡ false → (k : ℕ) (d : X) → k < length rows → (number (get_or rows k d) == target) ≡ false
    differs e k d inside = by_side (ltb k place) refl
      where
        here : k ≡ place → (number (get_or rows k d) == target) ≡ false
        here same =
            let there : get_or rows k d ≡ row.now = ap (λ (n : ℕ). get_or rows n d) same ∙ get_or_default rows place d row.now within ∙ sym is in
            ap (λ (x : X). number x == target) there ∙ e

        by_place : (b : Bool) → (k == place) ≡ b → ltb k place ≡ false → (number (get_or rows k d) == target) ≡ false
        by_place true same high = here (grind (arith, nat_tests, same))
        by_place false apart high =
            let after : place < k = grind (arith, nat_tests, apart, high) in
            let up : number (get_or rows place d) < number (get_or rows k d) = rise place k d after inside in
            let from : target ≤ number (get_or rows place d) = parts.1 place d (omega arith) within in
            above_differs (number (get_or rows k d)) target (omega (arith, up, from))

        by_side : (b : Bool) → ltb k place ≡ b → (number (get_or rows k d) == target) ≡ false
        by_side true low = let before : k < place = grind (arith, nat_tests, low) in below_differs (number (get_or rows k d)) target (parts.0 k d (omega arith) before)
        by_side false high = by_place (k == place) refl high

    by_test : (b : Bool) → (number row.now == target) ≡ b → position_from (λ other. number other == target) 0 rows ≡ (if number row.now == target then Some place else None)
    by_test true e = at_place_from number target rows place 0 row.now (λ k d lower. parts.0 k d (omega arith) lower) (ap (λ (x : X). number x == target) (sym is) ∙ e) within ∙ ap Some whole
        ∙ sym (ap (λ (b : Bool). if b then Some place else None) e)
    by_test false e = none_at_all (λ other. number other == target) rows 0 (differs e) ∙ sym (ap (λ (b : Bool). if b then Some place else None) e)

pub place_over : {X : Type 0} (number : X → ℕ) (target : ℕ) (rows : List X) (place : ℕ) → Parts number target rows place
    → IsItemAt rows place None → position (λ other. number other == target) rows ≡ None
place_over number target rows place parts read =
    position_from-zero (λ other. number other == target) rows
    ∙ none_at_all (λ other. number other == target) rows 0 (λ k d within. below_differs (number (get_or rows k d)) target (parts.0 k d (omega arith) (let over = read.3 in omega (arith, within, over))))

-- what is found is one of the rows
same_found : {X : Type 0} (row call : X) → Some row ≡ Some call → row ≡ call
same_found {X} row call h = ap (λ (found : Option X). unwrap_or found call) h

found_holds : {X : Type 0} (P : X → Type 0) (p : X → Bool) (rows : List X) (call : X) → All P rows → find p rows ≡ Some call → P call
found_holds P p [] call all found = absurd (let never : None ≡ Some call = found in cc never)
found_holds {X} P p (row ∷ rows) call all found = by_test (p row) (found_holds P p rows call (All-tail P row rows all)) found
  where
    by_test : (b : Bool) → (find p rows ≡ Some call → P call) → (if b then Some row else find p rows) ≡ Some call → P call
    by_test true rest h = subst P (same_found row call h) (All-head P row rows all)
    by_test false rest h = rest h

first_from : {X : Type 0} (number : X → ℕ) (p : X → Bool) (rows : List X) (call : X) (i : ℕ) → Climbs number rows → find p rows ≡ Some call
    → position_from (λ row. number row == number call) i rows ≡ position_from p i rows
first_from number p [] call i climb found = absurd (let never : None ≡ Some call = found in cc never)
first_from {X} number p (row ∷ rows) call i climb found = by_test (p row) refl (first_from number p rows call (i + 1) climb.1) found
  where
    same : X → Bool
    same other = number other == number call

    by_test : (b : Bool) → p row ≡ b → (find p rows ≡ Some call → position_from same (i + 1) rows ≡ position_from p (i + 1) rows) → (if b then Some row else find p rows) ≡ Some call
        → (if same row then Some i else position_from same (i + 1) rows) ≡ (if p row then Some i else position_from p (i + 1) rows)
    by_test true e rest h =
        let is : (number row == number call) ≡ true = (let equal : number row ≡ number call = ap number (same_found row call h) in grind (arith, nat_tests, equal)) in
        ap (λ (b : Bool). if b then Some i else position_from same (i + 1) rows) is ∙ sym (ap (λ (b : Bool). if b then Some i else position_from p (i + 1) rows) e)
    by_test false e rest h =
        ap (λ (b : Bool). if b then Some i else position_from same (i + 1) rows) (below_differs (number row) (number call) (found_holds (λ other. number row < number other) p rows call climb.0 h))
        ∙ rest h
        ∙ sym (ap (λ (b : Bool). if b then Some i else position_from p (i + 1) rows) e)

-- the first row that passes a test stands where its number does
pub place_first : {X : Type 0} (number : X → ℕ) (p : X → Bool) (rows : List X) (call : X) → Rise number rows → find p rows ≡ Some call
    → position (λ row. number row == number call) rows ≡ position p rows
place_first number p rows call rise found =
    position_from-zero (λ row. number row == number call) rows ∙ first_from number p rows call 0 (climbs number rows rise) found ∙ sym (position_from-zero p rows)

none_from : {X : Type 0} (p : X → Bool) (rows : List X) (i : ℕ) → find p rows ≡ None → position_from p i rows ≡ None
none_from p [] i found = refl
none_from {X} p (row ∷ rows) i found = by_test (p row) (none_from p rows (i + 1)) found
  where
    by_test : (b : Bool) → (find p rows ≡ None → position_from p (i + 1) rows ≡ None) → (if b then Some row else find p rows) ≡ None → (if b then Some i else position_from p (i + 1) rows) ≡ None
    by_test true rest h = absurd (let never : Some row ≡ None = h in cc never)
    by_test false rest h = rest h

pub place_none : {X : Type 0} (p : X → Bool) (rows : List X) → find p rows ≡ None → position p rows ≡ None
place_none p rows found = position_from-zero p rows ∙ none_from p rows 0 found

-- a test that asks for another one first looks through what passes that one
find_among_at : {X : Type 0} (b c : Bool) (x : X) (found : Option X) → (c ≡ false → b ≡ false) → (if c then (if b then Some x else found) else found) ≡ (if b then Some x else found)
find_among_at true true x found ask = refl
find_among_at false true x found ask = refl
find_among_at true false x found ask = absurd (let never : true ≡ false = ask refl in cc never)
find_among_at false false x found ask = refl

pub find_among : {X : Type 0} (p q : X → Bool) (xs : List X) → ((x : X) → q x ≡ false → p x ≡ false) → find p (filter q xs) ≡ find p xs
find_among p q [] asks = refl
find_among {X} p q (x ∷ xs) asks =
    found_filtered (q x) ∙ ap (λ (found : Option X). if q x then (if p x then Some x else found) else found) (find_among p q xs asks) ∙ find_among_at (p x) (q x) x (find p xs) (asks x)
  where
    found_filtered : (c : Bool) → find p (if c then x ∷ filter q xs else filter q xs) ≡ (if c then (if p x then Some x else find p (filter q xs)) else find p (filter q xs))
    found_filtered true = refl
    found_filtered false = refl
