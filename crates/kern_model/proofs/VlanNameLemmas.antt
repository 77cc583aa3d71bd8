-- Names of the form X.N are split at their last dot.
use Rattle.std.proofs.Common.{arith, ℕ, ◌≡◌, ◌<◌, ◌+◌, ◌-◌, List, ◌∷◌, length, take, drop, slice_index, decimal, true, sym, ap, ◌∙◌, refl, length-append, add-one}
use Rattle.std.proofs.Math.Seq.{get_or-append_seam}
use Rattle.std.proofs.lemmas.List.{take_at, drop_at, get_or-append-add}
use Rattle.std.specs.Int.{IsInRange}
use Rattle.std.proofs.lemmas.Fmt.{decimal_is_IsNumeral}
use Rattle.std.proofs.lemmas.Str.Parse.{digit_at}
use Rattle.std.proofs.lemmas.Bool.Decides.{nat_tests}
use Rattle.memchr.specs.Find.{Nowhere, NoneAfter, Passes, is_byte}
use Rattle.kern_model.specs.VlanName.{IsVlanName}

dot_passes : (name : List ℕ) (v : IsVlanName name) → Passes (is_byte 46) name (length v.lower)
dot_passes name v = ap (is_byte 46) (ap (λ xs. slice_index xs (length v.lower)) v.spelled ∙ get_or-append_seam v.lower 46 (decimal v.id) 0)

long_name : (name : List ℕ) (v : IsVlanName name) → length name ≡ length v.lower + (length (decimal v.id) + 1)
long_name name v = ap length v.spelled ∙ length-append v.lower (46 ∷ decimal v.id) ∙ omega arith

pub no_vlan_without_dot : (name : List ℕ) → Nowhere (Passes (is_byte 46) name) 0 (length name) → IsVlanName name → ⊥
no_vlan_without_dot name none v =
    let long = long_name name v in
    none (length v.lower) (omega arith) (omega arith) (dot_passes name v)

is_dot : (b : ℕ) → is_byte 46 b ≡ true → b ≡ 46
is_dot b h = grind (arith, nat_tests)

-- behind the dot stand digits
digit_behind : (name : List ℕ) (v : IsVlanName name) (k : ℕ) → k < length (decimal v.id) → slice_index name (length v.lower + (k + 1)) ≡ 46 → ⊥
digit_behind name v k inside dot =
    let at : slice_index name (length v.lower + (k + 1)) ≡ slice_index (46 ∷ decimal v.id) (k + 1) = ap (λ xs. slice_index xs (length v.lower + (k + 1))) v.spelled ∙ get_or-append-add v.lower (46 ∷ decimal v.id) (k + 1) 0 in
    let digit : IsInRange 48 57 (slice_index (decimal v.id) k) = digit_at (decimal v.id) k (decimal_is_IsNumeral v.id (omega arith)).0.1 inside in
    let step : slice_index (46 ∷ decimal v.id) (k + 1) ≡ slice_index (decimal v.id) k = rw add-one refl in
    omega (arith, digit.0)

pub dot_place : (name : List ℕ) (at : ℕ) (v : IsVlanName name) → NoneAfter (Passes (is_byte 46) name) 0 (length name) at → Passes (is_byte 46) name at → at ≡ length v.lower
dot_place name at v after here =
    let long = long_name name v in
    let not_before : at < length v.lower → ⊥ = λ h. after.after (length v.lower) (omega arith) (omega arith) (dot_passes name v) in
    let behind_dot : length v.lower < at → at - length v.lower - 1 < length (decimal v.id) = λ h. let high = after.high in omega arith in
    let place : length v.lower < at → length v.lower + (at - length v.lower - 1 + 1) ≡ at = λ h. omega arith in
    let not_behind : length v.lower < at → ⊥ = λ h. digit_behind name v (at - length v.lower - 1) (behind_dot h) (ap (slice_index name) (place h) ∙ is_dot _ here) in
    omega (arith, not_before, not_behind)

pub lower_is : (name : List ℕ) (at : ℕ) (v : IsVlanName name) → at ≡ length v.lower → take at name ≡ v.lower
lower_is name at v h = ap (take at) v.spelled ∙ take_at v.lower (46 ∷ decimal v.id) at (sym h)

pub behind_is : (name : List ℕ) (at : ℕ) (v : IsVlanName name) → at ≡ length v.lower → drop at name ≡ 46 ∷ decimal v.id
behind_is name at v h = ap (drop at) v.spelled ∙ drop_at v.lower (46 ∷ decimal v.id) at (sym h)
