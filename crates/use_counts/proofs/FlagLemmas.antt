-- flags of ids, and how many are set
use Rattle.std.proofs.Common.{arith, ℕ, zero, suc, ◌+◌, ◌-◌, ◌<◌, ◌≤◌, ◌≡◌, ◌≢◌, ⊎_elim, Bool, true, false, List, [], ◌∷◌, ◌++◌, Contains, length, take, slice_set, replicate, length-set, get_or-set_same, get_or-set_other, subst, refl, sym}
use Rattle.std.proofs.Common.{ap, ◌∙◌}
use Rattle.std.proofs.lemmas.Bool.{cases_eq, cases_lt, false≢true}
use Rattle.std.proofs.lemmas.List.{get_or_past}
use Rattle.std.proofs.lemmas.List.Elements.{Contains-append_left, Contains-push, Contains-push_cases}
use Rattle.use_counts.specs.UsesInside.{flag_at, flags_set}

pub set_within : (flags : List Bool) → flags_set flags ≤ length flags
set_within [] = omega arith
set_within (true ∷ flags) = omega (arith, set_within flags)
set_within (false ∷ flags) = omega (arith, set_within flags)

-- one flag more is set
pub set_more : (flags : List Bool) (k : ℕ) → k < length flags → flag_at flags k ≡ false → flags_set (slice_set flags k true) ≡ flags_set flags + 1
set_more [] k h is = absurd (omega (arith, h))
set_more (true ∷ flags) zero h is = absurd (false≢true (sym is))
set_more (false ∷ flags) zero h is = omega arith
set_more (true ∷ flags) (suc k) h is = omega (arith, set_more flags k (omega (arith, h)) is)
set_more (false ∷ flags) (suc k) h is = omega (arith, set_more flags k (omega (arith, h)) is)

-- where a flag is not set, not all are
pub set_fewer : (flags : List Bool) (k : ℕ) → k < length flags → flag_at flags k ≡ false → flags_set flags < length flags
set_fewer flags k h is = omega (arith, set_more flags k h is, set_within (slice_set flags k true), length-set flags k true)

-- a flag that is not set, at the end
pub set_pushed : (flags : List Bool) → flags_set (flags ++ false ∷ []) ≡ flags_set flags
set_pushed [] = refl
set_pushed (true ∷ flags) = omega (arith, set_pushed flags)
set_pushed (false ∷ flags) = set_pushed flags

pub none_set : (flags : List Bool) → ((k : ℕ) → flag_at flags k ≢ true) → flags_set flags ≡ 0
none_set [] none = refl
none_set (true ∷ flags) none = absurd (none 0 refl)
none_set (false ∷ flags) none = none_set flags (λ k. none (suc k))

pub none_new : (count : ℕ) → (k : ℕ) → flag_at (replicate count false) k ≢ true
none_new zero k h = absurd (false≢true h)
none_new (suc count) zero h = absurd (false≢true h)
none_new (suc count) (suc k) h = none_new count k h

-- what is set lies within
pub set_inside : (flags : List Bool) (k : ℕ) → flag_at flags k ≡ true → k < length flags
set_inside flags k is = ⊎_elim (λ h. h) (λ past. absurd (false≢true (sym (get_or_past flags k false past) ∙ is))) (cases_lt k (length flags))

-- a flag at the end is read past the end too
pub flag_pushed : (flags : List Bool) (k : ℕ) → flag_at (flags ++ false ∷ []) k ≡ flag_at flags k
flag_pushed [] zero = refl
flag_pushed [] (suc k) = refl
flag_pushed (b ∷ flags) zero = refl
flag_pushed (b ∷ flags) (suc k) = flag_pushed flags k

-- an empty list that is lengthened has no flag set
none_before : (n : ℕ) → ◌≡◌ {A = List Bool} (take n []) []
none_before zero = refl
none_before (suc n) = refl

pub all_new : (n len : ℕ) (old new : List Bool) → old ≡ [] → len ≡ 0 → new ≡ take n old ++ replicate (n - len) false → new ≡ replicate n false
all_new n len old new none empty is =
    let whole : n - len ≡ n = omega (arith, empty) in
    is
    ∙ ap (λ (fs : List Bool). take n fs ++ replicate (n - len) false) none
    ∙ ap (λ (fs : List Bool). fs ++ replicate (n - len) false) (none_before n)
    ∙ ap (λ k. replicate k false) whole

-- one id more has its flag
pub flagged_more : (flags : List Bool) (ids : List ℕ) (id : ℕ) → ((k : ℕ) → flag_at flags k ≡ true → Contains ids k) → (k : ℕ) → flag_at (slice_set flags id true) k ≡ true → Contains (ids ++ id ∷ []) k
flagged_more flags ids id are k h =
    ⊎_elim
    (λ (e : k ≡ id). subst (Contains (ids ++ id ∷ [])) (sym e) (Contains-push ids id))
    (λ ne. Contains-append_left ids (id ∷ []) k (are k (sym (get_or-set_other flags id k true false ne) ∙ h)))
    (cases_eq k id)

-- the last id is dropped with its flag
pub flagged_less : (flags : List Bool) (ids rest : List ℕ) (id : ℕ) → id < length flags → ids ≡ rest ++ id ∷ [] → ((k : ℕ) → flag_at flags k ≡ true → Contains ids k) → (k : ℕ) → flag_at (slice_set flags id false) k ≡ true → Contains rest k
flagged_less flags ids rest id within is are k h =
    ⊎_elim
    (λ (e : k ≡ id). absurd (false≢true (sym (ap (flag_at (slice_set flags id false)) e ∙ get_or-set_same flags id false false within) ∙ h)))
    (λ ne. ⊎_elim (λ here. here) (λ (e : id ≡ k). absurd (ne (sym e)))
    (Contains-push_cases rest id k (subst (λ (ks : List ℕ). Contains ks k) is (are k (sym (get_or-set_other flags id k false false ne) ∙ h)))))
    (cases_eq k id)
