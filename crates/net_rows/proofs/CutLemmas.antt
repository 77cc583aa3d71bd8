-- The cut of a text at a byte.
use Rattle.std.proofs.Common.{ℕ, ◌≡◌, List, [], ◌∷◌, ◌++◌, Some, None, refl, ◌∙◌, ap, eq-eqb}
use Rattle.std.proofs.lemmas.Bool.{ne_eqb}
use Rattle.std.specs.List.{slice_split}
use Rattle.std.specs.Prelude.{◌==◌}
use Rattle.std.proofs.lemmas.List.Splits.{slice_split-cons_yes, slice_split-cons_no}
use Rattle.net_rows.specs.Cut.{HasNone, CutsAtFirst, CutsAtLast, first_cut, last_cut}

pub no_first_cut : (byte : ℕ) (text : List ℕ) → HasNone byte text → first_cut byte text ≡ None
no_first_cut byte [] none = refl
no_first_cut byte (x ∷ xs) none = rw (ne_eqb x byte none.0, no_first_cut byte xs none.1) refl

pub no_last_cut : (byte : ℕ) (text : List ℕ) → HasNone byte text → last_cut byte text ≡ None
no_last_cut byte [] none = refl
no_last_cut byte (x ∷ xs) none = rw (no_last_cut byte xs none.1, ne_eqb x byte none.0) refl

first_cut_at : (byte : ℕ) (front back : List ℕ) → HasNone byte front → first_cut byte (front ++ byte ∷ back) ≡ Some (front, back)
first_cut_at byte [] back none = rw (eq-eqb byte byte refl) refl
first_cut_at byte (x ∷ xs) back none = rw (ne_eqb x byte none.0, first_cut_at byte xs back none.1) refl

last_cut_at : (byte : ℕ) (front back : List ℕ) → HasNone byte back → last_cut byte (front ++ byte ∷ back) ≡ Some (front, back)
last_cut_at byte [] back none = rw (no_last_cut byte back none, eq-eqb byte byte refl) refl
last_cut_at byte (x ∷ xs) back none = rw (last_cut_at byte xs back none) refl

pub is_first_cut : (byte : ℕ) (text front back : List ℕ) → CutsAtFirst byte text front back → first_cut byte text ≡ Some (front, back)
is_first_cut byte text front back cut = ap (first_cut byte) cut.whole ∙ first_cut_at byte front back cut.first

pub is_last_cut : (byte : ℕ) (text front back : List ℕ) → CutsAtLast byte text front back → last_cut byte text ≡ Some (front, back)
is_last_cut byte text front back cut = ap (last_cut byte) cut.whole ∙ last_cut_at byte front back cut.last

-- the parts of a text are the front, and those of what is behind the first of these bytes
pub split_at : (byte : ℕ) (front back : List ℕ) → HasNone byte front → slice_split (λ b. b == byte) (front ++ byte ∷ back) ≡ front ∷ slice_split (λ b. b == byte) back
split_at byte [] back none = slice_split-cons_yes (λ b. b == byte) byte back (eq-eqb byte byte refl)
split_at byte (x ∷ xs) back none = slice_split-cons_no (λ b. b == byte) x (xs ++ byte ∷ back) (ne_eqb x byte none.0) ∙ rw (split_at byte xs back none.1) refl

pub split_none : (byte : ℕ) (text : List ℕ) → HasNone byte text → slice_split (λ b. b == byte) text ≡ text ∷ []
split_none byte [] none = refl
split_none byte (x ∷ xs) none = slice_split-cons_no (λ b. b == byte) x xs (ne_eqb x byte none.0) ∙ rw (split_none byte xs none.1) refl
