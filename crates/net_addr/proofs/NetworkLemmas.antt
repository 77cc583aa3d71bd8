-- The bits that are kept and cleared in a network.
use Rattle.std.proofs.Common.{◌≡◌, ℕ, ◌+◌, ◌-◌, ◌*◌, ◌/◌, ◌%◌, ◌^◌, ◌<◌, ◌≤◌, List, length, get_or, slice_index, sym, ap, subst, mul_assoc, mul_comm, ◌∙◌, refl, inl, inr, arith}
use Rattle.std.specs.Int.{bit_at}
use Rattle.std.proofs.lemmas.Bool.{cases_lt}
use Rattle.std.proofs.lemmas.Nat.{pow-add, shl-shr, shr-shr}
use Rattle.std.proofs.lemmas.Nat.Bits.{same_from_bits_below, bit_at-zero}
use Rattle.std.proofs.lemmas.List.{ext_get_or, get_or_past}
use Rattle.net_addr.specs.declared.address.Addr.{Addr}
use Rattle.net_addr.specs.declared.address.Addr.TheVariants as Family
use Rattle.net_addr.specs.Octets.{AreOctets, IsAddr, octets}
use Rattle.net_addr.specs.Width.{bits}
use Rattle.net_addr.specs.Network.{bit_of, IsNetworkOf, without_low_bits}

kept_bit : (x h p : ℕ) → h ≤ p → bit_at (without_low_bits h x) p ≡ bit_at x p
kept_bit x h p above =
    let d = p - h in
    let whole : h + d ≡ p = omega arith in
    let shifted : without_low_bits h x / 2 ^ (h + d) ≡ x / 2 ^ (h + d) = sym (shr-shr (without_low_bits h x) h d) ∙ ap (λ y. y / 2 ^ d) (shl-shr (x / 2 ^ h) h) ∙ shr-shr x h d in
    ap (λ y. y % 2) (ap (λ q. without_low_bits h x / 2 ^ q) (sym whole) ∙ shifted ∙ ap (λ q. x / 2 ^ q) whole)

times : (a b e f g : ℕ) → b ≡ e * f → e ≡ 2 * g → a * b ≡ (2 * (a * g)) * f
times a b e f g whole double =
    let moved_two : a * (2 * g) ≡ 2 * (a * g) = sym (mul_assoc a 2 g) ∙ ap (λ y. y * g) (mul_comm a 2) ∙ mul_assoc 2 a g in
    ap (λ y. a * y) (whole ∙ ap (λ y. y * f) double) ∙ sym (mul_assoc a (2 * g) f) ∙ ap (λ y. y * f) moved_two

cleared_bit : (x h p : ℕ) → p < h → bit_at (without_low_bits h x) p ≡ 0
cleared_bit x h p below =
    let d = h - p - 1 in
    let a = x / 2 ^ h in
    let whole : (1 + d) + p ≡ h = omega arith in
    let high : 2 ^ h ≡ 2 ^ (1 + d) * 2 ^ p = ap (λ q. 2 ^ q) (sym whole) ∙ pow-add 2 (1 + d) p in
    let double : 2 ^ (1 + d) ≡ 2 * 2 ^ d = pow-add 2 1 d in
    let shifted : without_low_bits h x ≡ (2 * (a * 2 ^ d)) * 2 ^ p = times a (2 ^ h) (2 ^ (1 + d)) (2 ^ p) (2 ^ d) high double in
    let left : without_low_bits h x / 2 ^ p ≡ 2 * (a * 2 ^ d) = ap (λ y. y / 2 ^ p) shifted ∙ shl-shr (2 * (a * 2 ^ d)) p in
    omega (arith, left)

-- the octets that are left are those of the network
pub kept_octets : (xs ys : List ℕ) (n : ℕ) → length ys ≡ length xs → ((i : ℕ) → i < length xs → slice_index ys i ≡ without_low_bits (8 - (n - 8 * i)) (slice_index xs i)) → (k : ℕ) → k < n → bit_of ys k ≡ bit_of xs k
kept_octets xs ys n same each k below =
    elim (cases_lt (k / 8) (length xs)) [
      | inl within ↦ ap (λ y. bit_at y (7 - k % 8)) (each (k / 8) within) ∙ kept_bit (slice_index xs (k / 8)) (8 - (n - 8 * (k / 8))) (7 - k % 8) (omega arith)
      | inr past ↦ ap (λ y. bit_at y (7 - k % 8)) (get_or_past ys (k / 8) 0 (omega arith) ∙ sym (get_or_past xs (k / 8) 0 past))
    ]

pub cleared_octets : (xs ys : List ℕ) (n : ℕ) → length ys ≡ length xs → ((i : ℕ) → i < length xs → slice_index ys i ≡ without_low_bits (8 - (n - 8 * i)) (slice_index xs i)) → (k : ℕ) → n ≤ k → bit_of ys k ≡ 0
cleared_octets xs ys n same each k above =
    elim (cases_lt (k / 8) (length xs)) [
      | inl within ↦ ap (λ y. bit_at y (7 - k % 8)) (each (k / 8) within) ∙ cleared_bit (slice_index xs (k / 8)) (8 - (n - 8 * (k / 8))) (7 - k % 8) (omega arith)
      | inr past ↦ ap (λ y. bit_at y (7 - k % 8)) (get_or_past ys (k / 8) 0 (omega arith)) ∙ bit_at-zero (7 - k % 8)
    ]

moved : (xs : List ℕ) (i p : ℕ) → (8 * i + (7 - p)) / 8 ≡ i → 7 - (8 * i + (7 - p)) % 8 ≡ p → bit_of xs (8 * i + (7 - p)) ≡ bit_at (get_or xs i 0) p
moved xs i p octet place = ap (λ q. bit_at (get_or xs ((8 * i + (7 - p)) / 8) 0) q) place ∙ ap (λ j. bit_at (get_or xs j 0) p) octet

same_octets : (xs ys : List ℕ) (n : ℕ) → AreOctets n xs → AreOctets n ys → ((k : ℕ) → bit_of xs k ≡ bit_of ys k) → xs ≡ ys
same_octets xs ys n h k same = ext_get_or 0 xs ys (h.count ∙ sym k.count) λ i within. same_from_bits_below 8 (get_or xs i 0) (get_or ys i 0) (h.fit i) (k.fit i) λ p small.
    let octet : (8 * i + (7 - p)) / 8 ≡ i = omega arith in
    let place : 7 - (8 * i + (7 - p)) % 8 ≡ p = omega arith in
    sym (moved xs i p octet place) ∙ same (8 * i + (7 - p)) ∙ moved ys i p octet place

pub network_from_octets : (c : Addr × ℕ) (a b : Addr) (n : ℕ) → (a, n) ≡ c → bits b ≡ bits a → length (octets b) ≡ length (octets a)
    → ((i : ℕ) → i < length (octets a) → slice_index (octets b) i ≡ without_low_bits (8 - (n - 8 * i)) (slice_index (octets a) i)) → IsNetworkOf c (b, n)
network_from_octets c a b n same family count each =
    let P : Addr × ℕ → Type 0 = λ d. IsNetworkOf d (b, n) in
    subst P same (record {
      family = family;
      same_length = refl;
      prefix = kept_octets (octets a) (octets b) n count each;
      hosts = cleared_octets (octets a) (octets b) n count each;
    })

same_bits : (c m n : Addr × ℕ) → IsNetworkOf c m → IsNetworkOf c n → (k : ℕ) → bit_of (octets m.0) k ≡ bit_of (octets n.0) k
same_bits c m n p q k = elim (cases_lt k c.1) [ inl front ↦ p.prefix k front ∙ sym (q.prefix k front) | inr back ↦ p.hosts k back ∙ sym (q.hosts k back) ]

same_addr : (a b : Addr) → IsAddr a → IsAddr b → bits a ≡ bits b → ((k : ℕ) → bit_of (octets a) k ≡ bit_of (octets b) k) → a ≡ b
same_addr (Family.V4 a) (Family.V4 b) h k family same = ap (λ (xs : List ℕ). Family.V4 (record { 0 = xs })) (same_octets a.0 b.0 4 h k same)
same_addr (Family.V4 a) (Family.V6 b) h k family same = absurd (omega arith)
same_addr (Family.V6 a) (Family.V4 b) h k family same = absurd (omega arith)
same_addr (Family.V6 a) (Family.V6 b) h k family same = ap (λ (xs : List ℕ). Family.V6 (record { 0 = xs })) (same_octets a.0 b.0 16 h k same)

-- a prefix has one network
pub IsNetworkOf_unique : (c m n : Addr × ℕ) → IsAddr m.0 → IsAddr n.0 → IsNetworkOf c m → IsNetworkOf c n → m ≡ n
IsNetworkOf_unique c m n h k p q =
    let address = same_addr m.0 n.0 h k (p.family ∙ sym q.family) (same_bits c m n p q) in
    let len = p.same_length ∙ sym q.same_length in
    λ i. (address i, len i)
