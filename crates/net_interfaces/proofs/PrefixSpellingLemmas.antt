-- The prefix that a text is, as a function of the text, is the one that it spells.
use Rattle.std.proofs.Common.{ℕ, ◌≡◌, ◌==◌, ◌≤◌, ◌⊎◌, ◌∙◌, Bool, true, false, List, [], ◌∷◌, ◌++◌, length, drop, Option, Some, None, codes, refl, sym, ap, inl, inr, arith, lit≤, append_assoc, ltb-false, le-ltb, lt-ltb, ne_eqb, one-add}
use Rattle.std.specs.Prelude.{nat_lt, ◌||◌, if◌then◌else◌}
use Rattle.std.specs.Str.Parse.{AllDigits, digits_value}
use Rattle.std.proofs.lemmas.Bool.{cases_eq}
use Rattle.std.proofs.lemmas.Option.{none-some, same_Some, option_and_then_some}
use Rattle.std.proofs.Math.Seq.{drop-append_seam}
use Rattle.net_addr.specs.declared.address.Addr.{Addr}
use Rattle.net_addr.specs.Byte.{slash}
use Rattle.net_addr.specs.Width.{bits}
use Rattle.net_addr.specs.Spelling.{Spells}
use Rattle.net_addr.specs.CidrSpelling.{SpellsCidr, SpellsLength, before_slash}
use Rattle.net_addr.proofs.CidrLemmas.{suffix_part}
use Rattle.net_rows.specs.Cut.{HasNone, CutsAtFirst}
use Rattle.net_rows.specs.Number.{is_numeral, of_32_bits, decimal_of, within, number_within}
use Rattle.net_interfaces.specs.declared.address.Family.{Family}
use Rattle.net_interfaces.specs.declared.address.Family.TheVariants as family
use Rattle.net_interfaces.specs.Address.{addr_of, bits_of}
use Rattle.net_interfaces.specs.Prefix.{length_of, both, prefix_of}
use Rattle.net_interfaces.specs.PrefixSpelling.{SpellsPrefix}
use Rattle.net_interfaces.proofs.AddressLemmas.{found_is_spelled, found_is_wide, spelled_is_found}
use Rattle.net_interfaces.proofs.DigitLemmas.{numeral_is, is_numeral_from}
use Rattle.net_interfaces.proofs.PrefixLemmas.{alone_is, cut_is}

-- ---- options that are there

if_none : {X : Type 0} (b : Bool) (o : Option X) (x : X) → (if b then None else o) ≡ Some x → (b ≡ false) × (o ≡ Some x)
if_none true o x e = absurd (none-some x e)
if_none false o x e = (refl, e)

if_some : {X : Type 0} (b : Bool) (o : Option X) (x : X) → (if b then o else None) ≡ Some x → (b ≡ true) × (o ≡ Some x)
if_some true o x e = (refl, e)
if_some false o x e = absurd (none-some x e)

both_some : (addr : Option Addr) (size : Option ℕ) (cidr : Addr × ℕ) → both addr size ≡ Some cidr → (addr ≡ Some cidr.0) × (size ≡ Some cidr.1)
both_some None size cidr e = absurd (none-some cidr e)
both_some (Some addr) None cidr e = absurd (none-some cidr e)
both_some (Some addr) (Some size) cidr e =
    let same : (addr, size) ≡ cidr = same_Some (addr, size) cidr e in
    (ap (λ (c : Addr × ℕ). Some c.0) same, ap (λ (c : Addr × ℕ). Some c.1) same)

-- ---- lengths

few_bits : (of : Family) → bits_of of ≤ 128
few_bits family.V4 = lit≤ tt
few_bits family.V6 = lit≤ tt

neither : (a b : Bool) → (a || b) ≡ false → b ≡ false
neither true b e = absurd cc
neither false b e = e

within_is : (most m n : ℕ) → within 0 most m ≡ Some n → (m ≡ n) × (n ≤ most)
within_is most m n e =
    let some = if_none (nat_lt m 0 || nat_lt most m) (Some m) n e in
    let same : m ≡ n = same_Some m n some.1 in
    let room = ltb-false most m (neither (nat_lt m 0) (nat_lt most m) some.0) in
    (same, omega (arith, same, room))

length_found : (of : Family) (digits : List ℕ) (n : ℕ) → length_of of digits ≡ Some n → SpellsLength digits n × (n ≤ bits_of of)
length_found of digits n e =
    let short = if_none (nat_lt 3 (length digits)) (number_within 0 (bits_of of) digits) n e in
    option_and_then_some (within 0 (bits_of of)) (decimal_of digits) n short.1 λ m read fits.
    let decimal = if_some (is_numeral digits) (of_32_bits (digits_value 10 digits)) m read in
    let value = if_some (nat_lt (digits_value 10 digits) 4294967296) (Some (digits_value 10 digits)) m decimal.1 in
    let same : digits_value 10 digits ≡ m = same_Some (digits_value 10 digits) m value.1 in
    let is = within_is (bits_of of) m n fits in
    (((numeral_is digits decimal.0, same ∙ is.0), ltb-false 3 (length digits) short.0), is.1)

length_spelled : (of : Family) (digits : List ℕ) (n : ℕ) → SpellsLength digits n → n ≤ bits_of of → length_of of digits ≡ Some n
length_spelled of digits n h room =
    let few = few_bits of in
    let value : digits_value 10 digits ≡ n = h.0.1 in
    let small : nat_lt n 4294967296 ≡ true = lt-ltb n 4294967296 (omega (arith, room, few)) in
    rw (le-ltb 3 (length digits) h.1, is_numeral_from digits h.0.0, value, small, le-ltb n 0 (omega arith), le-ltb (bits_of of) n room) refl

-- ---- the cut at the first slash

cut_or_none : (byte : ℕ) (text : List ℕ) → HasNone byte text ⊎ ((front back : List ℕ) × CutsAtFirst byte text front back)
cut_or_none byte [] = inl tt
cut_or_none byte (x ∷ xs) =
    elim (cases_eq x byte) [
      | inl same ↦ inr ([], xs, record { whole = ap (λ z. z ∷ xs) same; first = tt })
      | inr other ↦ elim (cut_or_none byte xs) [
        | inl none ↦ inl (other, none)
        | inr (front, back, cut) ↦ inr (x ∷ front, back, record { whole = ap (λ zs. x ∷ zs) cut.whole; first = (other, cut.first) })
      ]
    ]

before_is : (front rest : List ℕ) → HasNone slash front → before_slash (front ++ 47 ∷ rest) ≡ front
before_is [] rest none = refl
before_is (x ∷ xs) rest none =
    let first : (x == 47) ≡ false = ne_eqb x 47 none.0 in
    let others = before_is xs rest none.1 in
    rw (first, one-add) (ap (λ zs. x ∷ zs) others)

no_digit : (front rest : List ℕ) → AllDigits 10 (front ++ 47 ∷ rest) → ⊥
no_digit [] rest all = let first = all.0 in omega (arith, first)
no_digit (x ∷ xs) rest all = no_digit xs rest all.1

-- The text of an address has no slash: what stands behind it would be the length of the prefix that the text is with `/0` at
-- its end.
no_slash : (text : List ℕ) (a : Addr) → Spells text a → (front back : List ℕ) → CutsAtFirst slash text front back → ⊥
no_slash text a h front back cut =
    let long : List ℕ = (text ++ codes "/") ++ codes "0" in
    let spelled : SpellsCidr long (a, 0) = record { address = text; digits = codes "0"; spelled = refl; address_text = h; length_text = (((lit≤ tt, (lit≤ tt, tt)), refl), lit≤ tt); room = omega arith } in
    let (digits, e, number) = suffix_part long (a, 0) spelled in
    let rest : List ℕ = back ++ codes "/0" in
    let whole : long ≡ front ++ 47 ∷ rest = append_assoc text (codes "/") (codes "0") ∙ (ap (λ t. t ++ codes "/0") cut.whole ∙ append_assoc front (47 ∷ back) (codes "/0")) in
    let before : before_slash long ≡ front = ap before_slash whole ∙ before_is front rest cut.first in
    let behind : drop (length (before_slash long)) long ≡ 47 ∷ rest = ap (λ xs. drop (length xs) long) before ∙ (ap (drop (length front)) whole ∙ drop-append_seam front (47 ∷ rest)) in
    let same : rest ≡ digits = ap (drop 1) (sym behind ∙ e) in
    let all : AllDigits 10 rest = rw same number.0.0.1 in
    no_digit back (codes "0") all

has_no_slash : (text : List ℕ) (a : Addr) → Spells text a → HasNone slash text
has_no_slash text a h =
    elim (cut_or_none slash text) [
      | inl none ↦ none
      | inr (front, back, cut) ↦ absurd (no_slash text a h front back cut)
    ]

-- ---- prefixes

cut_prefix : (of : Family) (alone : ℕ) (text front back : List ℕ) (cidr : Addr × ℕ) → CutsAtFirst slash text front back → prefix_of of alone text ≡ Some cidr → (addr_of of front ≡ Some cidr.0) × (length_of of back ≡ Some cidr.1)
cut_prefix of alone text front back cidr cut e = both_some (addr_of of front) (length_of of back) cidr (cut_is of alone text front back cut ∙ e)

alone_prefix : (of : Family) (alone : ℕ) (text : List ℕ) (cidr : Addr × ℕ) → HasNone slash text → prefix_of of alone text ≡ Some cidr → (addr_of of text ≡ Some cidr.0) × (Some alone ≡ Some cidr.1)
alone_prefix of alone text cidr none e = both_some (addr_of of text) (Some alone) cidr (alone_is of alone text none ∙ e)

cut_is_spelled : (of : Family) (alone : ℕ) (text front back : List ℕ) (cidr : Addr × ℕ) → CutsAtFirst slash text front back → prefix_of of alone text ≡ Some cidr → SpellsCidr text cidr
cut_is_spelled of alone text front back cidr cut e =
    let parts = cut_prefix of alone text front back cidr cut e in
    let size = length_found of back cidr.1 parts.1 in
    let wide = found_is_wide of front cidr.0 parts.0 in
    record {
      address = front;
      digits = back;
      spelled = cut.whole ∙ sym (append_assoc front (47 ∷ []) back);
      address_text = found_is_spelled of front cidr.0 parts.0;
      length_text = size.0;
      room = omega (arith, size.1, wide);
    }

pub found_prefix : (of : Family) (alone : ℕ) (text : List ℕ) (cidr : Addr × ℕ) → prefix_of of alone text ≡ Some cidr → SpellsPrefix alone text cidr
found_prefix of alone text cidr e =
    elim (cut_or_none slash text) [
      | inl none ↦ let parts = alone_prefix of alone text cidr none e in inr (found_is_spelled of text cidr.0 parts.0, sym (same_Some alone cidr.1 parts.1))
      | inr (front, back, cut) ↦ inl (cut_is_spelled of alone text front back cidr cut e)
    ]

pub prefix_is_wide : (of : Family) (alone : ℕ) (text : List ℕ) (cidr : Addr × ℕ) → prefix_of of alone text ≡ Some cidr → bits cidr.0 ≡ bits_of of
prefix_is_wide of alone text cidr e =
    elim (cut_or_none slash text) [
      | inl none ↦ found_is_wide of text cidr.0 (alone_prefix of alone text cidr none e).0
      | inr (front, back, cut) ↦ found_is_wide of front cidr.0 (cut_prefix of alone text front back cidr cut e).0
    ]

pub spelled_prefix : (of : Family) (alone : ℕ) (text : List ℕ) (cidr : Addr × ℕ) → SpellsPrefix alone text cidr → bits cidr.0 ≡ bits_of of → prefix_of of alone text ≡ Some cidr
spelled_prefix of alone text cidr (inl h) wide =
    let room : cidr.1 ≤ bits_of of = let fits = h.room in omega (arith, fits, wide) in
    let cut : CutsAtFirst slash text h.address h.digits = record { whole = h.spelled ∙ append_assoc h.address (47 ∷ []) h.digits; first = has_no_slash h.address cidr.0 h.address_text } in
    let addr = spelled_is_found of h.address cidr.0 h.address_text wide in
    let size = length_spelled of h.digits cidr.1 h.length_text room in
    sym (cut_is of alone text h.address h.digits cut) ∙ rw (addr, size) refl
spelled_prefix of alone text cidr (inr h) wide =
    let addr = spelled_is_found of text cidr.0 h.0 wide in
    sym (alone_is of alone text (has_no_slash text cidr.0 h.0)) ∙ (rw addr (ap (λ n. Some (cidr.0, n)) (sym h.1)))
