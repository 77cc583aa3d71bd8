-- The first item that passes a test, by its place.
use Rattle.std.proofs.Common.{ℕ, zero, suc, ◌≡◌, ◌<◌, Bool, true, false, cond, List, [], ◌∷◌, ◌++◌, length, get_or, set, take, drop, Option, Some, None, Result, Ok, Err, position, is_some, refl, sym, ap, ◌∙◌, arith}
use Rattle.std.specs.List.{remove}
use Rattle.std.specs.Option.{option_map}
use Rattle.uci_tree.proofs.FoldLemmas.{position-cons}
use Rattle.uci_delta.specs.declared.delta_error.DeltaError.{DeltaError}
use Rattle.uci_delta.specs.First.{made, first_becomes, first_alone, others}

-- the list with these in place of the item at a place
abbrev pub with_at : {X : Type 0} → List X → ℕ → List X → List X
with_at xs i new = take i xs ++ (new ++ drop (suc i) xs)

made_cons : {X : Type 0} (y : X) (f : List X → List X) (r : Result (List X) DeltaError) → made (λ rest. y ∷ rest) (made f r) ≡ made (λ new. y ∷ f new) r
made_cons y f (Ok new) = refl
made_cons y f (Err error) = refl

becomes_step : {X : Type 0} (b : Bool) (place : Option ℕ) (y : X) (ys : List X) (i : ℕ) (x : X) (becomes : X → Result (List X) DeltaError) (rest : Result (List X) DeltaError)
    → ((j : ℕ) → place ≡ Some j → x ≡ get_or ys j x → rest ≡ made (with_at ys j) (becomes x)) → cond {A = Option ℕ} b (Some 0) (option_map (λ k. suc k) place) ≡ Some i → x ≡ get_or (y ∷ ys) i x
    → cond {A = Result (List X) DeltaError} b (made (λ new. new ++ ys) (becomes y)) (made (λ rest. y ∷ rest) rest) ≡ made (with_at (y ∷ ys) i) (becomes x)
becomes_step true place y ys zero x becomes rest k e g = ap (λ z. made (λ new. new ++ ys) (becomes z)) (sym g)
becomes_step true place y ys (suc i) x becomes rest k e g = absurd (let f : Some 0 ≡ Some (suc i) = e in cc)
becomes_step false None y ys i x becomes rest k e g = absurd (let f : ◌≡◌ {A = Option ℕ} None (Some i) = e in cc)
becomes_step false (Some j) y ys zero x becomes rest k e g = absurd (let f : Some (suc j) ≡ Some 0 = e in cc)
becomes_step false (Some j) y ys (suc i) x becomes rest k e g =
    let f : Some (suc j) ≡ Some (suc i) = e in
    let s : Some j ≡ Some i = cc in
    ap (made (λ rest. y ∷ rest)) (k i s g) ∙ made_cons y (with_at ys i) (becomes x)

pub becomes_at : {X : Type 0} (test : X → Bool) (lack : DeltaError) (becomes : X → Result (List X) DeltaError) (xs : List X) (i : ℕ) (x : X) → position test xs ≡ Some i → x ≡ get_or xs i x → first_becomes test lack becomes xs
    ≡ made (with_at xs i) (becomes x)
becomes_at test lack becomes [] i x e g = absurd (let f : ◌≡◌ {A = Option ℕ} None (Some i) = e in cc)
becomes_at test lack becomes (y ∷ ys) i x e g = becomes_step (test y) (position test ys) y ys i x becomes (first_becomes test lack becomes ys) (λ j s h. becomes_at test lack becomes ys j x s h) (sym (position-cons test y ys) ∙ e) g

none_step : {X : Type 0} (b : Bool) (place : Option ℕ) (y : X) (lack : DeltaError) (found rest : Result (List X) DeltaError) → (place ≡ None → rest ≡ Err lack) → cond {A = Option ℕ} b (Some 0) (option_map (λ k. suc k) place) ≡ None
    → cond {A = Result (List X) DeltaError} b found (made (λ rest. y ∷ rest) rest) ≡ Err lack
none_step true place y lack found rest k e = absurd (let f : ◌≡◌ {A = Option ℕ} (Some 0) None = e in cc)
none_step false (Some j) y lack found rest k e = absurd (let f : ◌≡◌ {A = Option ℕ} (Some (suc j)) None = e in cc)
none_step false None y lack found rest k e = ap (made (λ rest. y ∷ rest)) (k refl)

pub becomes_none : {X : Type 0} (test : X → Bool) (lack : DeltaError) (becomes : X → Result (List X) DeltaError) (xs : List X) → position test xs ≡ None → first_becomes test lack becomes xs ≡ Err lack
becomes_none test lack becomes [] e = refl
becomes_none test lack becomes (y ∷ ys) e = none_step (test y) (position test ys) y lack (made (λ new. new ++ ys) (becomes y)) (first_becomes test lack becomes ys) (λ s. becomes_none test lack becomes ys s)
    (sym (position-cons test y ys) ∙ e)

within_step : (b : Bool) (place : Option ℕ) (n i : ℕ) → ((j : ℕ) → place ≡ Some j → j < n) → cond {A = Option ℕ} b (Some 0) (option_map (λ k. suc k) place) ≡ Some i → i < suc n
within_step true place n i k e = let f : Some 0 ≡ Some i = e in let s : 0 ≡ i = cc in omega arith
within_step false None n i k e = absurd (let f : ◌≡◌ {A = Option ℕ} None (Some i) = e in cc)
within_step false (Some j) n i k e =
    let f : Some (suc j) ≡ Some i = e in
    let s : suc j ≡ i = cc in
    let h : j < n = k j refl in
    omega arith

pub place_within : {X : Type 0} (test : X → Bool) (xs : List X) (i : ℕ) → position test xs ≡ Some i → i < length xs
place_within test [] i e = absurd (let f : ◌≡◌ {A = Option ℕ} None (Some i) = e in cc)
place_within test (y ∷ ys) i e = within_step (test y) (position test ys) (length ys) i (λ j s. place_within test ys j s) (sym (position-cons test y ys) ∙ e)

others_step : {X : Type 0} (b : Bool) (place : Option ℕ) (y : X) (ys rest : List X) (i : ℕ) → ((j : ℕ) → place ≡ Some j → rest ≡ remove ys j) → cond {A = Option ℕ} b (Some 0) (option_map (λ k. suc k) place) ≡ Some i
    → cond {A = List X} b ys (y ∷ rest) ≡ remove (y ∷ ys) i
others_step true place y ys rest zero k e = refl
others_step true place y ys rest (suc i) k e = absurd (let f : Some 0 ≡ Some (suc i) = e in cc)
others_step false None y ys rest i k e = absurd (let f : ◌≡◌ {A = Option ℕ} None (Some i) = e in cc)
others_step false (Some j) y ys rest zero k e = absurd (let f : Some (suc j) ≡ Some 0 = e in cc)
others_step false (Some j) y ys rest (suc i) k e =
    let f : Some (suc j) ≡ Some (suc i) = e in
    let s : Some j ≡ Some i = cc in
    ap (λ (z : List _). y ∷ z) (k i s)

pub others_at : {X : Type 0} (test : X → Bool) (xs : List X) (i : ℕ) → position test xs ≡ Some i → others test xs ≡ remove xs i
others_at test [] i e = absurd (let f : ◌≡◌ {A = Option ℕ} None (Some i) = e in cc)
others_at test (y ∷ ys) i e = others_step (test y) (position test ys) y ys (others test ys) i (λ j s. others_at test ys j s) (sym (position-cons test y ys) ∙ e)

alone_step : {X : Type 0} (b : Bool) (place : Option ℕ) (y : X) (ys rest : List X) (i : ℕ) (x : X) → ((j : ℕ) → place ≡ Some j → x ≡ get_or ys j x → rest ≡ x ∷ []) → cond {A = Option ℕ} b (Some 0) (option_map (λ k. suc k) place) ≡ Some i
    → x ≡ get_or (y ∷ ys) i x → cond {A = List X} b (y ∷ []) rest ≡ x ∷ []
alone_step true place y ys rest zero x k e g = ap (λ z. z ∷ []) (sym g)
alone_step true place y ys rest (suc i) x k e g = absurd (let f : Some 0 ≡ Some (suc i) = e in cc)
alone_step false None y ys rest i x k e g = absurd (let f : ◌≡◌ {A = Option ℕ} None (Some i) = e in cc)
alone_step false (Some j) y ys rest zero x k e g = absurd (let f : Some (suc j) ≡ Some 0 = e in cc)
alone_step false (Some j) y ys rest (suc i) x k e g =
    let f : Some (suc j) ≡ Some (suc i) = e in
    let s : Some j ≡ Some i = cc in
    k i s g

pub alone_at : {X : Type 0} (test : X → Bool) (xs : List X) (i : ℕ) (x : X) → position test xs ≡ Some i → x ≡ get_or xs i x → first_alone test xs ≡ x ∷ []
alone_at test [] i x e g = absurd (let f : ◌≡◌ {A = Option ℕ} None (Some i) = e in cc)
alone_at test (y ∷ ys) i x e g = alone_step (test y) (position test ys) y ys (first_alone test ys) i x (λ j s h. alone_at test ys j x s h) (sym (position-cons test y ys) ∙ e) g

-- a write at a place
pub set_is : {X : Type 0} (xs : List X) (i : ℕ) (y : X) → i < length xs → set xs i y ≡ with_at xs i (y ∷ [])
set_is [] i y h = absurd (omega (arith, h))
set_is (x ∷ xs) zero y h = refl
set_is (x ∷ xs) (suc i) y h = ap (λ (z : List _). x ∷ z) (set_is xs i y (omega arith))

pub is_there : {X : Type 0} (place : Option X) (x : X) → place ≡ Some x → is_some place ≡ true
is_there place x e = ap is_some e

pub not_there : {X : Type 0} (place : Option X) → place ≡ None → is_some place ≡ false
not_there place e = ap is_some e

-- what is at a place
pub at_place : {X : Type 0} (xs : List X) (i : ℕ) → i < length xs → X
at_place [] i h = absurd (omega (arith, h))
at_place (x ∷ xs) zero h = x
at_place (x ∷ xs) (suc i) h = at_place xs i (omega arith)

pub at_place_is : {X : Type 0} (xs : List X) (i : ℕ) (h : i < length xs) → at_place xs i h ≡ get_or xs i (at_place xs i h)
unfolding at_place
at_place_is [] i h = absurd (omega (arith, h))
at_place_is (x ∷ xs) zero h = refl
at_place_is (x ∷ xs) (suc i) h = at_place_is xs i (omega arith)

pub remove_set : {X : Type 0} (xs : List X) (i : ℕ) (y : X) → remove (set xs i y) i ≡ remove xs i
remove_set [] i y = refl
remove_set (x ∷ xs) zero y = refl
remove_set (x ∷ xs) (suc i) y = ap (λ (z : List _). x ∷ z) (remove_set xs i y)
