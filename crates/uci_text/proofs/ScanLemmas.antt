-- From the answers of scans to fronts of bytes of a class.
use Rattle.std.proofs.Common.{ℕ, ◌≡◌, ◌+◌, ◌↔◌, List, [], ◌∷◌, length, take, drop, get_or, Bool, true, not, cond, Fits, w8, suc, sym, refl, ap, ◌∙◌, subst, ap₂, arith, inl, inr}
use Rattle.std.specs.List.{AllByRecursion, prefix_len, position_or_len, list_all}
use Rattle.std.specs.Prelude.{IsTrue, unwrap_or, position}
use Rattle.std.proofs.lemmas.List.{take-append-drop}
use Rattle.std.proofs.lemmas.Bool.{agree_below, agree_below_at, cases_Bool, cases_lt, lt-ltb, le-ltb, and_parts, and_from}
use Rattle.std.proofs.lemmas.List.Sums.{prefix_len-le-length}
use Rattle.std.proofs.Math.Numerals.{one-add}
use Rattle.uci_text.specs.declared.byte_class.ByteClass.{ByteClass}
use Rattle.uci_text.specs.ByteClass.{is_in, IsAtEndOr, SplitsBehind}

-- two tests that agree on each byte have the same run
same_run : (p q : ℕ → Bool) → agree_below p q 256 ≡ true → (bytes : List ℕ) → ((k : ℕ) → Fits w8 (get_or bytes k 0))
    → prefix_len p bytes ≡ prefix_len q bytes
same_run p q agree [] fits = refl
same_run p q agree (x ∷ xs) fits =
    ap₂ (λ (b : Bool) (n : ℕ). cond b (1 + n) 0) (agree_below_at p q 256 x agree (fits 0).fits) (same_run p q agree xs (λ k. fits (suc k)))

-- the run of a test is that of the class which agrees with it on each byte
pub run_of_class : (p : ℕ → Bool) (bytes : List ℕ) (self class : ByteClass) (n : ℕ) → self ≡ class → n ≡ prefix_len p bytes
    → ((k : ℕ) → Fits w8 (get_or bytes k 0)) → agree_below p (is_in class) 256 ≡ true → n ≡ prefix_len (is_in self) bytes
run_of_class p bytes self class n same found fits agree =
    found ∙ same_run p (is_in class) agree bytes fits ∙ ap (λ (c : ByteClass). prefix_len (is_in c) bytes) (sym same)

-- the first place that is found, or the length
pub place_or_length : (p : ℕ → Bool) (bytes : List ℕ) → unwrap_or (position p bytes) (length bytes) ≡ position_or_len p bytes
place_or_length p bytes =
    let within = prefix_len-le-length (λ byte. not (p byte)) bytes in
    elim (cases_lt (position_or_len p bytes) (length bytes)) [
      | inl inside ↦ rw (lt-ltb _ _ inside) refl
      | inr past ↦ rw (le-ltb _ _ past) (omega (arith, within, past))
    ]

run_within : (p : ℕ → Bool) (bytes : List ℕ) → AllByRecursion (λ byte. IsTrue (p byte)) (take (prefix_len p bytes) bytes)
run_within p [] = tt
run_within p (x ∷ xs) =
    elim (cases_Bool (p x)) [
      | inl passes ↦ rw (passes, one-add) (passes, run_within p xs)
      | inr fails ↦ rw fails tt
    ]

run_ends : (p : ℕ → Bool) (bytes : List ℕ) → IsAtEndOr (λ byte. not (p byte)) (drop (prefix_len p bytes) bytes)
run_ends p [] = tt
run_ends p (x ∷ xs) =
    elim (cases_Bool (p x)) [
      | inl passes ↦ rw (passes, one-add) (run_ends p xs)
      | inr fails ↦ rw fails (rw fails refl)
    ]

-- the run of a class is its front
pub splits_behind_run : (class : ByteClass) (bytes : List ℕ) (n : ℕ) → n ≡ prefix_len (is_in class) bytes
    → SplitsBehind class bytes (take n bytes) (drop n bytes)
splits_behind_run class bytes n found =
    let P : ℕ → Type 0 = λ k. SplitsBehind class bytes (take k bytes) (drop k bytes) in
    let run = prefix_len (is_in class) bytes in
    subst P (sym found) (record {
      whole = sym (take-append-drop run bytes);
      within = run_within (is_in class) bytes;
      outside = run_ends (is_in class) bytes;
    })

-- the test of all bytes, and what it says of each
pub all_by_test : (p : ℕ → Bool) (bytes : List ℕ) → IsTrue (list_all p bytes) ↔ AllByRecursion (λ byte. IsTrue (p byte)) bytes
all_by_test p [] = (λ _. tt, λ _. refl)
all_by_test p (x ∷ xs) = (
  λ all. let parts = and_parts (p x) (list_all p xs) all in (parts.0, (all_by_test p xs).0 parts.1),
  λ each. and_from (p x) (list_all p xs) each.0 ((all_by_test p xs).1 each.1),
)
