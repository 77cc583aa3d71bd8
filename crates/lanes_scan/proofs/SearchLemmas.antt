-- Steps of a search for the first place.
use Rattle.std.proofs.Common.{◌≡◌, ℕ, ◌+◌, ◌<◌, ◌≤◌, eqb, Bool, not, List, [], ◌∷◌, map, length, drop, refl, sym, ap, ◌∙◌, arith, inl, inr, suc}
use Rattle.std.proofs.lemmas.Bool.{cases_Bool, cases_eq, eq-eqb, ne_eqb, cond-true, cond-false}
use Rattle.std.proofs.lemmas.Simd.{length-chunk, chunk-drop}
use Rattle.std.proofs.lemmas.List.Folds.{prefix_len-append}
use Rattle.std.specs.List.{position_or_len, list_all}
use Rattle.std.specs.Simd.Lanes.{chunk, mask_l}

-- no place in the load: the search goes on behind it
pub search_behind : (p : ℕ → Bool) (bytes : List ℕ) (at n : ℕ) → at + n ≤ length bytes → position_or_len p (chunk at n bytes) ≡ n
    → position_or_len p (drop at bytes) ≡ n + position_or_len p (drop (at + n) bytes)
search_behind p bytes at n room none =
    let long = length-chunk at n bytes room in
    ap (position_or_len p) (chunk-drop at n bytes) ∙ prefix_len-append (λ x. not (p x)) (chunk at n bytes) (drop (at + n) bytes)
    ∙ cond-true _ _ _ (eq-eqb _ _ (none ∙ sym long)) ∙ ap (λ (k : ℕ). k + position_or_len p (drop (at + n) bytes)) long

-- a place in the load is the place
pub search_within : (p : ℕ → Bool) (bytes : List ℕ) (at n r : ℕ) → at + n ≤ length bytes → r ≡ position_or_len p (chunk at n bytes) → r < n
    → position_or_len p (drop at bytes) ≡ r
search_within p bytes at n r room found within =
    let load = chunk at n bytes in
    let long = length-chunk at n bytes room in
    ap (position_or_len p) (chunk-drop at n bytes) ∙ prefix_len-append (λ x. not (p x)) load (drop (at + n) bytes)
    ∙ cond-false _ _ _ (ne_eqb _ _ (λ (same : position_or_len p load ≡ length load). omega (arith, same, long, found))) ∙ sym found

-- where a lane is marked, a place is in the load
pub some_marked : (p : ℕ → Bool) (xs : List ℕ) → 0 < mask_l (map p xs) → position_or_len p xs < length xs
some_marked p [] some = omega arith
some_marked p (x ∷ xs) some =
    elim (cases_Bool (p x)) [
      | inl found ↦ rw found (omega arith)
      | inr other ↦ let later : 0 < mask_l (map p xs) = omega (arith, rw other at some) in rw other (omega (arith, some_marked p xs later))
    ]

eqb_suc : (a b : ℕ) → eqb (1 + a) (suc b) ≡ eqb a b
eqb_suc a b =
    elim (cases_eq a b) [
      | inl same ↦ eq-eqb _ _ (omega (arith, same)) ∙ sym (eq-eqb _ _ same)
      | inr other ↦ ne_eqb _ _ (λ (same : 1 + a ≡ suc b). other (omega (arith, same))) ∙ sym (ne_eqb _ _ other)
    ]

-- every byte passes just where no byte fails
pub all-from_place : (p : ℕ → Bool) (bytes : List ℕ) → eqb (position_or_len (λ x. not (p x)) bytes) (length bytes) ≡ list_all p bytes
all-from_place p [] = refl
all-from_place p (x ∷ xs) =
    elim (cases_Bool (p x)) [
      | inl passes ↦ rw passes (eqb_suc _ _ ∙ all-from_place p xs)
      | inr fails ↦ rw fails (ne_eqb _ _ (λ (same : 0 ≡ length (x ∷ xs)). omega (arith, same)))
    ]
