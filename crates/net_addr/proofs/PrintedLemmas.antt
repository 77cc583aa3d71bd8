-- The bytes of the printed texts, how long they are, and that they tell prefixes apart.
use Rattle.std.proofs.Common.{◌≡◌, ◌≢◌, ℕ, ◌+◌, ◌-◌, ◌*◌, ◌^◌, ◌<◌, ◌≤◌, ◌⊎◌, List, [], ◌∷◌, ◌++◌, All, length, take, drop, flat_map, slice_index, decimal, sym, ap, ◌∙◌, refl, inl, inr, append_assoc, length-append, arith, lt-ltb, le-ltb}
use Rattle.std.specs.Int.{IsInRange}
use Rattle.std.specs.Net.Addr.{segments_of}
use Rattle.std.specs.Net.Text.{ipv4_text, hex, groups_text, longest_zero_run, hex_groups_text}
use Rattle.std.proofs.lemmas.List.{length-drop, length-take-le}
use Rattle.std.proofs.lemmas.Bool.{cases_lt}
use Rattle.std.proofs.NetLemmas.Texts.{IsZeroRun-longest_zero_run}
use Rattle.std.proofs.lemmas.List.Elements.{All-cons, All-append, All-head, All-tail, All-weaker, All-same, All-from_get_or}
use Rattle.std.proofs.lemmas.Fmt.{decimal_is_IsNumeral, decimal_injective, length-decimal-le}
use Rattle.std.proofs.lemmas.Str.Parse.{digit_at}
use Rattle.std.proofs.NetLemmas.Alphabet.{IsDigitOrDot, IsHexOrColon, All-ipv4_text, All-hex_groups_text}
use Rattle.net_addr.specs.declared.address.Addr.{Addr}
use Rattle.net_addr.specs.declared.address.Addr.TheVariants as Family
use Rattle.net_addr.specs.Octets.{AreOctets, IsAddr, IsV4}
use Rattle.net_addr.specs.Width.{IsCidr}
use Rattle.net_addr.specs.Printed.{v4_text, v6_text, addr_text, cidr_text}
use Rattle.net_addr.specs.Alphabet.{IsV4Byte, IsCidrByte}
use Rattle.net_addr.proofs.OctetLemmas.{segments_below, length-segments_of}
use Rattle.net_addr.specs.Spelling.{Spells}
use Rattle.net_addr.proofs.SpellingLemmas.{Spells_unique, Spells-addr_text}

-- ---- bytes

All-decimal : (n : ℕ) → n < 2 ^ 64 → All (IsInRange 48 57) (decimal n)
All-decimal n fits = All-from_get_or (IsInRange 48 57) (decimal n) 0 λ i h. digit_at (decimal n) i (decimal_is_IsNumeral n fits).0.1 h

-- an address is printed with no slash
abbrev pub IsAddrByte : ℕ → Type 0
IsAddrByte b = IsInRange 48 58 b ⊎ (IsInRange 97 102 b ⊎ (b ≡ 46))

pub All-addr_text : (a : Addr) → IsAddr a → All IsAddrByte (addr_text a)
All-addr_text (Family.V4 a) h =
    All-weaker IsDigitOrDot IsAddrByte (λ b d. elim d [ inl digit ↦ inl (omega arith) | inr dot ↦ inr (inr dot) ]) (ipv4_text a.0) (All-ipv4_text a.0 h.fit)
All-addr_text (Family.V6 a) h =
    All-weaker IsHexOrColon IsAddrByte (λ b d. elim d [ inl digit ↦ inl digit | inr letter ↦ inr (inl letter) ]) (v6_text a.0) (All-hex_groups_text (segments_of a.0) (segments_below a.0 h.fit))

pub length_fits : (c : Addr × ℕ) → IsCidr c → c.1 ≤ 128
length_fits (Family.V4 a, n) h = omega (arith, h.1)
length_fits (Family.V6 a, n) h = h.1

cidr_text_parts : (c : Addr × ℕ) → cidr_text c ≡ addr_text c.0 ++ 47 ∷ decimal c.1
cidr_text_parts c = append_assoc (addr_text c.0) (47 ∷ []) (decimal c.1)

-- each byte of the text of an IPv4 prefix is a digit, `.` or `/`
pub All-v4_cidr_text : (c : Addr × ℕ) → IsV4 c.0 → IsCidr c → All IsV4Byte (cidr_text c)
All-v4_cidr_text (Family.V4 a, n) v4 h =
    let front = All-weaker IsDigitOrDot IsV4Byte (λ b d. elim d [ inl digit ↦ inl digit | inr dot ↦ inr (inl dot) ]) (ipv4_text a.0) (All-ipv4_text a.0 h.0.fit) in
    let back = All-weaker (IsInRange 48 57) IsV4Byte (λ b d. inl d) (decimal n) (All-decimal n (omega (arith, h.1))) in
    All-same IsV4Byte _ _ (cidr_text_parts (Family.V4 a, n)) (All-append IsV4Byte (ipv4_text a.0) (47 ∷ decimal n) front (All-cons IsV4Byte 47 (decimal n) (inr (inr refl)) back))
All-v4_cidr_text (Family.V6 a, n) v4 h = absurd v4

-- each byte of the text of a prefix is a digit, a letter `a` to `f`, `.`, `:` or `/`
pub All-cidr_text : (c : Addr × ℕ) → IsCidr c → All IsCidrByte (cidr_text c)
All-cidr_text c h =
    let front = All-weaker IsAddrByte IsCidrByte (λ b d. elim d [ inl digit ↦ inl digit | inr (inl letter) ↦ inr (inl letter) | inr (inr dot) ↦ inr (inr (inl dot)) ]) (addr_text c.0) (All-addr_text c.0 h.0) in
    let back = All-weaker (IsInRange 48 57) IsCidrByte (λ b d. inl (omega arith)) (decimal c.1) (All-decimal c.1 (omega (arith, length_fits c h))) in
    All-same IsCidrByte _ _ (cidr_text_parts c) (All-append IsCidrByte (addr_text c.0) (47 ∷ decimal c.1) front (All-cons IsCidrByte 47 (decimal c.1) (inr (inr (inr refl))) back))

-- no byte of the text of a prefix is a space
pub cidr_text_has_no_space : (c : Addr × ℕ) → IsCidr c → All (λ b. b ≢ 32) (cidr_text c)
cidr_text_has_no_space c h = All-weaker IsCidrByte (λ b. b ≢ 32) (λ b d. λ space. omega arith) (cidr_text c) (All-cidr_text c h)

-- ---- lengths

length-octet : (xs : List ℕ) (k : ℕ) → ((j : ℕ) → slice_index xs j < 256) → length (decimal (slice_index xs k)) ≤ 3
length-octet xs k fit =
    let small : slice_index xs k < 256 = fit k in
    length-decimal-le 3 (slice_index xs k) (omega arith) (omega arith) (omega arith)

pub length-v4_text : (xs : List ℕ) → ((j : ℕ) → slice_index xs j < 256) → length (v4_text xs) ≤ 15
length-v4_text xs fit =
    let a = length-octet xs 0 fit in
    let b = length-octet xs 1 fit in
    let c = length-octet xs 2 fit in
    let d = length-octet xs 3 fit in
    simp length-append (omega arith)

pub length-hex : (n : ℕ) → length (hex n) ≤ 4
unfolding hex
length-hex n = simp length-drop (omega arith)

length-more_groups : (xs : List ℕ) → length (flat_map (λ t. 58 ∷ hex t) xs) ≤ 5 * length xs
length-more_groups [] = omega arith
length-more_groups (x ∷ xs) = omega (arith, length-hex x, length-more_groups xs, length-append (58 ∷ hex x) (flat_map (λ t. 58 ∷ hex t) xs))

-- at most four digits for each group, and a colon before each but the first
pub length-groups_text : (xs : List ℕ) → length (groups_text xs) ≤ 5 * length xs - 1
length-groups_text [] = omega arith
length-groups_text (x ∷ xs) = omega (arith, length-hex x, length-more_groups xs, length-append (hex x) (flat_map (λ t. 58 ∷ hex t) xs))

pub length-v6_text : (xs : List ℕ) → AreOctets 16 xs → length (v6_text xs) ≤ 39
unfolding hex_groups_text
length-v6_text xs h =
    let segments = segments_of xs in
    let start = (longest_zero_run segments).0 in
    let len = (longest_zero_run segments).1 in
    let eight : length segments ≡ 8 = length-segments_of 8 xs h.count in
    let within = (IsZeroRun-longest_zero_run segments).0 in
    let head = length-groups_text (take start segments) in
    let tail = length-groups_text (drop (start + len) segments) in
    let front = length-take-le start segments (omega arith) in
    let back = length-drop (start + len) segments in
    elim (cases_lt 1 len) [
      | inl long ↦ rw (lt-ltb 1 len long) (simp length-append (omega arith))
      | inr short ↦ rw (le-ltb 1 len short) (omega (arith, length-groups_text segments))
    ]

length-addr_text : (a : Addr) → IsAddr a → length (addr_text a) ≤ 39
length-addr_text (Family.V4 a) h = omega (arith, length-v4_text a.0 h.fit)
length-addr_text (Family.V6 a) h = length-v6_text a.0 h

pub length-suffix : (c : Addr × ℕ) → IsCidr c → length (decimal c.1) ≤ 3
length-suffix c h =
    let small = length_fits c h in
    length-decimal-le 3 c.1 (omega arith) (omega arith) (omega arith)

-- the text of a prefix has at most 43 bytes
pub length-cidr_text : (c : Addr × ℕ) → IsCidr c → length (cidr_text c) ≤ 43
length-cidr_text c h =
    omega (arith, ap length (cidr_text_parts c), length-append (addr_text c.0) (47 ∷ decimal c.1), length-addr_text c.0 h.0, length-suffix c h)

-- the text of an IPv4 prefix has at most 18 bytes
pub length-v4_cidr_text : (c : Addr × ℕ) → IsV4 c.0 → IsCidr c → length (cidr_text c) ≤ 18
length-v4_cidr_text (Family.V4 a, n) v4 h =
    let front : length (addr_text (Family.V4 a)) ≤ 15 = length-v4_text a.0 h.0.fit in
    let back : length (decimal n) ≤ 2 = length-decimal-le 2 n (omega arith) (omega (arith, h.1)) (omega (arith, h.1)) in
    omega (arith, ap length (cidr_text_parts (Family.V4 a, n)), length-append (addr_text (Family.V4 a)) (47 ∷ decimal n))
length-v4_cidr_text (Family.V6 a, n) v4 h = absurd v4

-- ---- one text for each prefix

-- what stands before the first c, and what after it
split_unique : (c : ℕ) (xs ys us vs : List ℕ) → All (λ b. b ≢ c) xs → All (λ b. b ≢ c) ys → xs ++ c ∷ us ≡ ys ++ c ∷ vs → (xs ≡ ys) × (us ≡ vs)
split_unique c [] [] us vs h k e = (refl, cc)
split_unique c [] (y ∷ ys) us vs h k e = absurd (All-head (λ b. b ≢ c) y ys k (cc))
split_unique c (x ∷ xs) [] us vs h k e = absurd (All-head (λ b. b ≢ c) x xs h (cc))
split_unique c (x ∷ xs) (y ∷ ys) us vs h k e =
    let tails : xs ++ c ∷ us ≡ ys ++ c ∷ vs = cc in
    let heads : x ≡ y = cc in
    let rest = split_unique c xs ys us vs (All-tail (λ b. b ≢ c) x xs h) (All-tail (λ b. b ≢ c) y ys k) tails in
    (cc (heads, rest.0), rest.1)

no_slash : (a : Addr) → IsAddr a → All (λ b. b ≢ 47) (addr_text a)
no_slash a h = All-weaker IsAddrByte (λ b. b ≢ 47) (λ b d. λ slash. omega arith) (addr_text a) (All-addr_text a h)

-- two prefixes that are printed alike are equal
pub cidr_text_injective : (a b : Addr × ℕ) → IsCidr a → IsCidr b → cidr_text a ≡ cidr_text b → a ≡ b
cidr_text_injective a b h k e =
    let parts = split_unique 47 (addr_text a.0) (addr_text b.0) (decimal a.1) (decimal b.1) (no_slash a.0 h.0) (no_slash b.0 k.0) (sym (cidr_text_parts a) ∙ e ∙ cidr_text_parts b) in
    let spelled : Spells (addr_text a.0) b.0 = rw parts.0 (Spells-addr_text b.0 k.0) in
    let address : a.0 ≡ b.0 = Spells_unique (addr_text a.0) a.0 b.0 (Spells-addr_text a.0 h.0) spelled in
    let len : a.1 ≡ b.1 = decimal_injective a.1 b.1 (omega (arith, length_fits a h)) (omega (arith, length_fits b k)) parts.1 in
    λ i. (address i, len i)
