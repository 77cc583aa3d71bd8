-- The text of a prefix: its address stands before the first slash, and its length behind it.
use Rattle.std.proofs.Common.{◌≡◌, ◌≢◌, ℕ, ◌-◌, ◌^◌, ◌<◌, ◌≤◌, ◌==◌, Bool, true, false, List, [], ◌∷◌, ◌++◌, All, Some, None, length, get_or, take, drop, decimal, position, sym, ap, subst, ◌∙◌, refl, inl, inr, append_assoc, arith}
use Rattle.std.proofs.Common.{take-append-drop, length-take-le, lt-ltb, one-add, ne_eqb}
use Rattle.std.specs.List.{position_or_len}
use Rattle.std.specs.Str.Parse.{AllDigits, digits_value}
use Rattle.std.specs.Char.{digit_value}
use Rattle.std.specs.Net.Addr.{segments_of}
use Rattle.std.specs.Net.Text.{ipv4_text}
use Rattle.std.specs.Net.Grammar.{IsDotted, IsGroupsAfter, IsColonHex, IsElided}
use Rattle.std.proofs.lemmas.Bool.{cases_lt}
use Rattle.std.proofs.lemmas.List.{take_all}
use Rattle.std.proofs.Math.Seq.{drop-append_seam}
use Rattle.std.proofs.lemmas.List.Elements.{All-nil, All-cons, All-append, All-head, All-tail, All-same, All-weaker}
use Rattle.std.proofs.lemmas.List.Sums.{position_or_len_is, prefix_len-le-length}
use Rattle.std.proofs.lemmas.List.Quantifiers.{position-Some}
use Rattle.std.proofs.lemmas.Fmt.{decimal_is_IsNumeral}
use Rattle.std.proofs.NetLemmas.Alphabet.{IsDigitOrDot, All-ipv4_text}
use Rattle.net_addr.specs.declared.address.Addr.{Addr}
use Rattle.net_addr.specs.declared.address.Addr.TheVariants as Family
use Rattle.net_addr.specs.Width.{bits, IsCidr}
use Rattle.net_addr.specs.Spelling.{Spells}
use Rattle.net_addr.specs.CidrSpelling.{SpellsSuffix, SpellsCidr, before_slash}
use Rattle.net_addr.specs.Printed.{addr_text, cidr_text}
use Rattle.net_addr.proofs.OctetLemmas.{four_below}
use Rattle.net_addr.proofs.SpellingLemmas.{Spells_unique, Spells-addr_text}
use Rattle.net_addr.proofs.GroupLemmas.{take_rest}
use Rattle.net_addr.proofs.PrintedLemmas.{length_fits, length-suffix}

-- ---- an address has no slash

abbrev pub NotSlash : ℕ → Type 0
NotSlash b = b ≢ 47

not_slash_digit : (c : ℕ) → digit_value c < 16 → c ≢ 47
not_slash_digit c h same = let P : ℕ → Type 0 = λ b. digit_value b < 16 in let k : digit_value 47 < 16 = subst P same h in absurd (omega arith)

All-not_slash_digits : (ds : List ℕ) → AllDigits 16 ds → All NotSlash ds
All-not_slash_digits [] h = All-nil NotSlash
All-not_slash_digits (c ∷ cs) h = All-cons NotSlash c cs (not_slash_digit c h.0) (All-not_slash_digits cs h.1)

All-not_slash_dotted : (text xs : List ℕ) → IsDotted text xs → All NotSlash text
All-not_slash_dotted text xs h =
    let o : List ℕ = h.a ∷ h.b ∷ h.c ∷ h.d ∷ [] in
    let fit : (k : ℕ) → get_or o k 0 < 2 ^ 8 = λ k. four_below h.a h.b h.c h.d k h.fit.0 h.fit.1 h.fit.2 h.fit.3 in
    All-same NotSlash text (ipv4_text o) h.spelled (All-weaker IsDigitOrDot NotSlash (λ b d. λ slash. omega arith) (ipv4_text o) (All-ipv4_text o fit))

colon_not_slash : NotSlash 58
colon_not_slash same = absurd (omega arith)

joined_not_slash : (text front group rest : List ℕ) → text ≡ (front ++ group) ++ rest → All NotSlash front → All NotSlash group → All NotSlash rest → All NotSlash text
joined_not_slash text front group rest e h k l = All-same NotSlash text _ e (All-append NotSlash (front ++ group) rest (All-append NotSlash front group h k) l)

colon_text : All NotSlash (58 ∷ [])
colon_text = All-cons NotSlash 58 [] colon_not_slash (All-nil NotSlash)

All-not_slash_groups : (ipv4 : Bool) (front text groups : List ℕ) → All NotSlash front → IsGroupsAfter ipv4 front text groups → All NotSlash text
All-not_slash_groups ipv4 front text [] h e = All-same NotSlash text [] e (All-nil NotSlash)
All-not_slash_groups ipv4 front text (s ∷ groups) h e =
    elim e [
      | inl g ↦ joined_not_slash text front g.0 g.1 g.2 h (All-not_slash_digits g.0 g.3.0.0.1) (All-not_slash_groups ipv4 (58 ∷ []) g.1 groups colon_text g.4)
      | inr g ↦ All-same NotSlash text (front ++ g.0) g.3 (All-append NotSlash front g.0 h (All-not_slash_dotted g.0 g.1 g.4))
    ]

All-not_slash_elided : (text groups : List ℕ) → IsElided text groups → All NotSlash text
All-not_slash_elided text groups h =
    let colons : All NotSlash (58 ∷ 58 ∷ []) = All-cons NotSlash 58 (58 ∷ []) colon_not_slash colon_text in
    let head = All-not_slash_groups false [] h.head_text h.head (All-nil NotSlash) h.head_groups in
    let tail = All-not_slash_groups true [] h.tail_text h.tail (All-nil NotSlash) h.tail_groups in
    joined_not_slash text h.head_text (58 ∷ 58 ∷ []) h.tail_text h.spelled head colons tail

All-not_slash_colon_hex : (text groups : List ℕ) → IsColonHex text groups → All NotSlash text
All-not_slash_colon_hex text groups (inl whole) = All-not_slash_groups true [] text groups (All-nil NotSlash) whole.0
All-not_slash_colon_hex text groups (inr elided) = All-not_slash_elided text groups elided

All-not_slash : (text : List ℕ) (a : Addr) → Spells text a → All NotSlash text
All-not_slash text (Family.V4 a) h = All-not_slash_dotted text a.0 h
All-not_slash text (Family.V6 a) h = All-not_slash_colon_hex text (segments_of a.0) h.1

-- ---- what stands before the first slash

abbrev pub is_slash : ℕ → Bool
is_slash b = b == 47

pub before_slash_at : (text : List ℕ) (i : ℕ) → position is_slash text ≡ Some i → take i text ≡ before_slash text
before_slash_at text i e =
    let found = position-Some is_slash text i 0 e in
    ap (λ k. take k text) (sym (position_or_len_is is_slash text i 0 (omega (arith, found.0)) found.2 (λ _. found.1)))

pub before_slash_none : (text : List ℕ) → position is_slash text ≡ None → text ≡ before_slash text
before_slash_none text e =
    elim (cases_lt (position_or_len is_slash text) (length text)) [
      | inl within ↦ let found : position is_slash text ≡ Some (position_or_len is_slash text) = rw (lt-ltb _ _ within) in absurd (cc (e, found))
      | inr past ↦ sym (take_all (position_or_len is_slash text) text past)
    ]

before_slash-append : (xs ys : List ℕ) → All NotSlash xs → before_slash (xs ++ 47 ∷ ys) ≡ xs
before_slash-append [] ys h = refl
before_slash-append (x ∷ xs) ys h =
    let first : (x == 47) ≡ false = ne_eqb x 47 (All-head NotSlash x xs h) in
    let rest = before_slash-append xs ys (All-tail NotSlash x xs h) in
    rw (first, one-add) (ap (λ zs. x ∷ zs) rest)

-- ---- the parts of a prefix

whole_text : (text : List ℕ) (c : Addr × ℕ) (h : SpellsCidr text c) → text ≡ h.address ++ 47 ∷ h.digits
whole_text text c h = h.spelled ∙ append_assoc h.address (47 ∷ []) h.digits

before_slash_is : (text : List ℕ) (c : Addr × ℕ) (h : SpellsCidr text c) → before_slash text ≡ h.address
before_slash_is text c h = ap before_slash (whole_text text c h) ∙ before_slash-append h.address h.digits (All-not_slash h.address c.0 h.address_text)

pub address_part : (text : List ℕ) (c : Addr × ℕ) → SpellsCidr text c → Spells (before_slash text) c.0
address_part text c h = rw (before_slash_is text c h) h.address_text

pub suffix_part : (text : List ℕ) (c : Addr × ℕ) → SpellsCidr text c → SpellsSuffix (drop (length (before_slash text)) text) c.1
suffix_part text c h =
    let before = before_slash_is text c h in
    let e : drop (length (before_slash text)) text ≡ 47 ∷ h.digits = ap (λ xs. drop (length xs) text) before ∙ ap (drop (length h.address)) (whole_text text c h) ∙ drop-append_seam h.address (47 ∷ h.digits) in
    (h.digits, e, h.length_text)

pub cidr_from_parts : (text : List ℕ) (a : Addr) (n : ℕ) → Spells (before_slash text) a → SpellsSuffix (drop (length (before_slash text)) text) n → n ≤ bits a → SpellsCidr text (a, n)
cidr_from_parts text a n address (digits, e, number) room =
    let k = position_or_len is_slash text in
    let within : k ≤ length text = prefix_len-le-length _ text in
    let size : length (before_slash text) ≡ k = length-take-le k text within in
    let parts : text ≡ before_slash text ++ 47 ∷ digits = sym (take-append-drop k text) ∙ ap (λ xs. before_slash text ++ xs) (ap (λ j. drop j text) (sym size) ∙ e) in
    record {
      address = before_slash text;
      digits = digits;
      spelled = parts ∙ sym (append_assoc (before_slash text) (47 ∷ []) digits);
      address_text = address;
      length_text = number;
      room = room;
    }

suffix_unique : (text : List ℕ) (m n : ℕ) → SpellsSuffix text m → SpellsSuffix text n → m ≡ n
suffix_unique text m n (ds, e, p) (es, f, q) =
    let same : ds ≡ es = ap (drop 1) (sym e ∙ f) in
    sym p.0.1 ∙ ap (digits_value 10) same ∙ q.0.1

pub SpellsCidr_unique : (text : List ℕ) (a b : Addr × ℕ) → SpellsCidr text a → SpellsCidr text b → a ≡ b
SpellsCidr_unique text a b h k =
    let address = Spells_unique (before_slash text) a.0 b.0 (address_part text a h) (address_part text b k) in
    let len = suffix_unique _ a.1 b.1 (suffix_part text a h) (suffix_part text b k) in
    λ i. (address i, len i)

pub SpellsCidr-cidr_text : (c : Addr × ℕ) → IsCidr c → SpellsCidr (cidr_text c) c
SpellsCidr-cidr_text c h = record {
  address = addr_text c.0;
  digits = decimal c.1;
  spelled = refl;
  address_text = Spells-addr_text c.0 h.0;
  length_text = (decimal_is_IsNumeral c.1 (omega (arith, length_fits c h)), length-suffix c h);
  room = h.1;
}

-- ---- the parts as the reader has them

-- the text from the end of the address on
slice_is : (text address : List ℕ) → address ≡ before_slash text → take (length text - length address) (drop (length address) text) ≡ drop (length (before_slash text)) text
slice_is text address e = take_rest text (length address) ∙ ap (λ xs. drop (length xs) text) e

pub suffix_given : (text address : List ℕ) (c : Addr × ℕ) → address ≡ before_slash text → SpellsCidr text c → SpellsSuffix (take (length text - length address) (drop (length address) text)) c.1
suffix_given text address c e h =
    let (digits, f, number) = suffix_part text c h in
    (digits, slice_is text address e ∙ f, number)

pub address_given : (text address : List ℕ) (c : Addr × ℕ) → address ≡ before_slash text → SpellsCidr text c → Spells address c.0
address_given text address c e h = rw e (address_part text c h)

pub cidr_found : (text address : List ℕ) (a : Addr) (n : ℕ) → address ≡ before_slash text → Spells address a → SpellsSuffix (take (length text - length address) (drop (length address) text)) n → n ≤ bits a → SpellsCidr text (a, n)
cidr_found text address a n e spelled (digits, f, number) room =
    let address_text : Spells (before_slash text) a = rw (← e) spelled in
    cidr_from_parts text a n address_text (digits, sym (slice_is text address e) ∙ f, number) room

-- a length that an address has room for is a number of 8 bits
pub length_is_small : (text : List ℕ) (c : Addr × ℕ) → SpellsCidr text c → c.1 < 2 ^ 8
length_is_small text (Family.V4 a, n) h = omega (arith, h.room)
length_is_small text (Family.V6 a, n) h = omega (arith, h.room)
