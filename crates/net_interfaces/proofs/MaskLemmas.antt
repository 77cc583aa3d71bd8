-- The length of a mask.
use Rattle.std.proofs.Common.{◌≡◌, ℕ, zero, suc, ◌≤◌, Bool, true, false, List, Option, Some, None, refl, ap, ◌∙◌, arith}
use Rattle.std.specs.Prelude.{if◌then◌else◌, bytes_eq}
use Rattle.std.proofs.lemmas.Slice.Eq.{bytes_eq-Decides}
use Rattle.std.proofs.lemmas.Option.{none-some, same_Some}
use Rattle.net_addr.specs.Mask.{mask_octets}
use Rattle.net_interfaces.specs.Mask.{length_within}
use Rattle.net_interfaces.proofs.AddressLemmas.{none_unless}

here_or_below : (most n : ℕ) (octets : List ℕ) (o : Option ℕ) (b : Bool) → bytes_eq octets (mask_octets most) ≡ b → (b ≡ true → most ≡ n) → (b ≡ false → o ≡ Some n) → (if b then Some most else o) ≡ Some n
here_or_below most n octets o true is here below = ap Some (here refl)
here_or_below most n octets o false is here below = below refl

pub length_found : (most n : ℕ) (octets : List ℕ) → n ≤ most → octets ≡ mask_octets n → ((m : ℕ) → m ≤ most → octets ≡ mask_octets m → m ≡ n) → length_within most octets ≡ Some n
unfolding length_within
length_found zero n octets small is only =
    here_or_below zero n octets None (bytes_eq octets (mask_octets 0)) refl (λ same. omega arith) λ other.
    let none : n ≡ 0 = omega arith in
    let same : bytes_eq octets (mask_octets 0) ≡ true = (bytes_eq-Decides octets (mask_octets 0)).1 (is ∙ ap mask_octets none) in
    absurd cc
length_found (suc most) n octets small is only =
    here_or_below (suc most) n octets (length_within most octets) (bytes_eq octets (mask_octets (suc most))) refl
    (λ same. only (suc most) (omega arith) ((bytes_eq-Decides octets (mask_octets (suc most))).0 same))
    λ other.
    let differ : n ≡ suc most → ⊥ = λ e. (let same : bytes_eq octets (mask_octets (suc most)) ≡ true = (bytes_eq-Decides octets (mask_octets (suc most))).1 (is ∙ ap mask_octets e) in absurd cc) in
    let below : n ≤ most = omega arith in
    length_found most n octets below is (λ m less. only m (omega arith))

is_here : (most n : ℕ) (octets : List ℕ) (o : Option ℕ) (b : Bool) → bytes_eq octets (mask_octets most) ≡ b → (if b then Some most else o) ≡ Some n → ((o ≡ Some n) → (n ≤ most) × (octets ≡ mask_octets n)) → (n ≤ most)
    × (octets ≡ mask_octets n)
is_here most n octets o true is e below =
    let same : most ≡ n = same_Some most n e in
    (omega arith, (bytes_eq-Decides octets (mask_octets most)).0 is ∙ ap mask_octets same)
is_here most n octets o false is e below = below e

length_is : (most n : ℕ) (octets : List ℕ) → length_within most octets ≡ Some n → (n ≤ most) × (octets ≡ mask_octets n)
unfolding length_within
length_is zero n octets e = is_here zero n octets None (bytes_eq octets (mask_octets 0)) refl e (λ none. absurd (none-some n none))
length_is (suc most) n octets e =
    is_here (suc most) n octets (length_within most octets) (bytes_eq octets (mask_octets (suc most))) refl e
    (λ below. let k = length_is most n octets below in (omega (arith, k.0), k.1))

pub no_length : (most : ℕ) (octets : List ℕ) → ((n : ℕ) → n ≤ most → ¬ (octets ≡ mask_octets n)) → None ≡ length_within most octets
no_length most octets never = none_unless (length_within most octets) (λ n e. let k = length_is most n octets e in never n k.0 k.1)
