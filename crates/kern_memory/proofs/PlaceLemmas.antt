-- Where a test finds an object in a list.
use Rattle.std.proofs.Common.{arith, ℕ, suc, ◌≡◌, ◌<◌, ◌≤◌, ◌+◌, inl, inr, List, [], ◌∷◌, Some, None, true, false, Bool, cond, Contains, length, get_or, refl, ap, sym, subst, ◌∙◌}
use Rattle.std.specs.Prelude.{not, nat_lt, position}
use Rattle.std.specs.List.{position_or_len}
use Rattle.kern_model.specs.declared.object.Object.{Object}
use Rattle.kern_model.proofs.MemberLemmas.{first_or_later, none_in_nil}
use Rattle.kern_model.proofs.TestLemmas.{below_test, above_test}

-- the first place at which a test passes
passes_step : (p : Object → Bool) (x : Object) (xs : List Object) (d : Object) → ((i : ℕ) → position_or_len p xs ≡ i → i < length xs → p (get_or xs i d) ≡ true) → (b : Bool) → p x ≡ b → (i : ℕ) → position_or_len p (x ∷ xs) ≡ i
    → i < length (x ∷ xs) → p (get_or (x ∷ xs) i d) ≡ true
passes_step p x xs d rest true px i is inside =
    let first : 0 ≡ i = ap (λ b. cond (not b) (1 + position_or_len p xs) 0) (sym px) ∙ is in
    subst (λ k. p (get_or (x ∷ xs) k d) ≡ true) first px
passes_step p x xs d rest false px i is inside =
    let n = position_or_len p xs in
    let later : 1 + n ≡ i = ap (λ b. cond (not b) (1 + position_or_len p xs) 0) (sym px) ∙ is in
    let at : suc n ≡ i = omega arith in
    let below : n < length xs = omega arith in
    subst (λ k. p (get_or (x ∷ xs) k d) ≡ true) at (rest n refl below)

passes_at : (p : Object → Bool) → (xs : List Object) (d : Object) (i : ℕ) → position_or_len p xs ≡ i → i < length xs → p (get_or xs i d) ≡ true
passes_at p [] d i is inside = absurd (omega arith)
passes_at p (x ∷ xs) d i is inside = passes_step p x xs d (passes_at p xs d) (p x) refl i is inside

none_step : (p : Object → Bool) (x : Object) (xs : List Object) (o : Object) → (length xs ≤ position_or_len p xs → Contains xs o → p o ≡ true → ⊥) → (b : Bool) → p x ≡ b → length (x ∷ xs) ≤ position_or_len p (x ∷ xs) → Contains (x ∷ xs) o
    → p o ≡ true → ⊥
none_step p x xs o rest true px long member passes =
    let none : position_or_len p (x ∷ xs) ≡ 0 = ap (λ b. cond (not b) (1 + position_or_len p xs) 0) px in
    omega arith
none_step p x xs o rest false px long member passes =
    let more : position_or_len p (x ∷ xs) ≡ 1 + position_or_len p xs = ap (λ b. cond (not b) (1 + position_or_len p xs) 0) px in
    elim (first_or_later x xs o member) as (λ _. ⊥) [
      | inl same ↦ cc (px, subst (λ y. p y ≡ true) (sym same) passes)
      | inr later ↦ rest (omega arith) later passes
    ]

none_passes : (p : Object → Bool) → (xs : List Object) (o : Object) → length xs ≤ position_or_len p xs → Contains xs o → p o ≡ true → ⊥
none_passes p [] o long member passes = none_in_nil o member
none_passes p (x ∷ xs) o long member passes = none_step p x xs o (none_passes p xs o) (p x) refl long member passes

pub record FoundAt (p : Object → Bool) (xs : List Object) (i : ℕ) : Type 0 where
  pub inside : i < length xs
  pub passes : (d : Object) → p (get_or xs i d) ≡ true

found_by : (p : Object → Bool) (xs : List Object) (i : ℕ) (b : Bool) → nat_lt (position_or_len p xs) (length xs) ≡ b → cond b (Some (position_or_len p xs)) None ≡ Some i → FoundAt p xs i
found_by p xs i true below h =
    let at : position_or_len p xs ≡ i = cc h in
    let inside = below_test (position_or_len p xs) (length xs) below in
    record { inside = omega arith; passes = λ d. passes_at p xs d i at (omega arith) }
found_by p xs i false below h = cc h

pub found_at : (p : Object → Bool) (xs : List Object) (i : ℕ) → position p xs ≡ Some i → FoundAt p xs i
found_at p xs i h = found_by p xs i (nat_lt (position_or_len p xs) (length xs)) refl h

not_found_by : (p : Object → Bool) (xs : List Object) (o : Object) (b : Bool) → nat_lt (position_or_len p xs) (length xs) ≡ b → cond b (Some (position_or_len p xs)) None ≡ None → Contains xs o → p o ≡ true → ⊥
not_found_by p xs o true below h member passes = cc h
not_found_by p xs o false below h member passes = none_passes p xs o (above_test (position_or_len p xs) (length xs) below) member passes

pub not_found : (p : Object → Bool) (xs : List Object) → position p xs ≡ None → (o : Object) → Contains xs o → p o ≡ true → ⊥
not_found p xs h o member passes = not_found_by p xs o (nat_lt (position_or_len p xs) (length xs)) refl h member passes
