-- Texts without a space, and lines that are such texts with a space between.
use Rattle.std.proofs.Common.{arith, ℕ, ◌≡◌, ◌≢◌, ◌+◌, ◌/◌, ◌%◌, ◌<◌, ◌^◌, suc, List, [], ◌∷◌, ◌++◌, All, length, flat_map, slice_index, codes, decimal, true, false, Bool, cond, sym, ap, ap₂, refl}
use Rattle.std.specs.Prelude.{◌&&◌, ◌==◌, not, nat_lt}
use Rattle.std.specs.Int.{IsInRange}
use Rattle.std.specs.List.{AllByRecursion, list_all, join_with_byte}
use Rattle.std.specs.Char.{digit_char}
use Rattle.std.proofs.lemmas.List.Elements.{All-weaker, All-from_get_or, recursion_from_All}
use Rattle.std.proofs.lemmas.Fmt.{decimal_is_IsNumeral}
use Rattle.std.proofs.lemmas.Str.Parse.{digit_at}
use Rattle.net_addr.specs.declared.address.Addr.{Addr}
use Rattle.net_addr.specs.Octets.{IsAddr}
use Rattle.net_addr.specs.Width.{IsCidr}
use Rattle.net_addr.specs.Printed.{addr_text, cidr_text}
use Rattle.net_addr.proofs.PrintedLemmas.{IsAddrByte, All-addr_text, cidr_text_has_no_space}
use Rattle.kern_model.specs.declared.object.Mac.{Mac}
use Rattle.kern_model.specs.Name.{is_name, is_name_byte}
use Rattle.kern_model.specs.Line.{hex_pair, pairs_text, mac_text, IsMac}

-- ---- texts without a space

pub record Plain (text : List ℕ) : Type 0 where
  pub bytes : AllByRecursion (λ b. b ≢ 32) text

first_of_both : (b c : Bool) → (b && c) ≡ true → b ≡ true
first_of_both true c h = refl
first_of_both false c h = h

second_of_both : (b c : Bool) → (b && c) ≡ true → c ≡ true
second_of_both true c h = h
second_of_both false c h = cc h

no_space : (b : ℕ) (rest : Bool) → (not (b == 32) && rest) ≡ true → b ≢ 32
no_space b rest h = λ space. let otherwise : (not (b == 32) && rest) ≡ false = ap (λ x. not (x == 32) && rest) space in cc

bytes_by_test : (text : List ℕ) → list_all (λ b. not (b == 32)) text ≡ true → AllByRecursion (λ b. b ≢ 32) text
bytes_by_test [] h = tt
bytes_by_test (b ∷ text) h = (no_space b (list_all (λ b. not (b == 32)) text) h, bytes_by_test text (second_of_both (not (b == 32)) _ h))

-- a text that computes, as a word of a line does
pub word : {text : List ℕ} → list_all (λ b. not (b == 32)) text ≡ true → Plain text
word {text} h = record { bytes = bytes_by_test text h }

name_bytes : (text : List ℕ) → list_all is_name_byte text ≡ true → AllByRecursion (λ b. b ≢ 32) text
name_bytes [] h = tt
name_bytes (b ∷ text) h =
    let so = first_of_both (is_name_byte b) (list_all is_name_byte text) h in
    ((λ space. let otherwise : is_name_byte b ≡ false = ap is_name_byte space in cc), name_bytes text (second_of_both (is_name_byte b) _ h))

pub name : (text : List ℕ) → is_name text ≡ true → Plain text
name text h = record { bytes = name_bytes text (second_of_both _ _ (first_of_both _ _ (first_of_both _ _ h))) }

pub number : (n : ℕ) → n < 2 ^ 32 → Plain (decimal n)
number n fits =
    let digits : All (IsInRange 48 57) (decimal n) = All-from_get_or (IsInRange 48 57) (decimal n) 0 (λ i h. digit_at (decimal n) i (decimal_is_IsNumeral n (omega arith)).0.1 h) in
    record { bytes = recursion_from_All _ _ (All-weaker (IsInRange 48 57) (λ b. b ≢ 32) (λ b d. λ space. omega arith) (decimal n) digits) }

pub address : (a : Addr) → IsAddr a → Plain (addr_text a)
address a h = record { bytes = recursion_from_All _ _ (All-weaker IsAddrByte (λ b. b ≢ 32) (λ b d. λ space. omega arith) (addr_text a) (All-addr_text a h)) }

pub prefix : (c : Addr × ℕ) → IsCidr c → Plain (cidr_text c)
prefix c h = record { bytes = recursion_from_All _ _ (cidr_text_has_no_space c h) }

digit_is_no_space : (d : ℕ) → digit_char d ≢ 32
digit_is_no_space d = elim (nat_lt d 10) as (λ b. cond b (48 + d) (87 + d) ≢ 32) [ true ↦ λ space. omega arith | false ↦ λ space. omega arith ]

more_pairs : (bytes : List ℕ) → AllByRecursion (λ b. b ≢ 32) (flat_map (λ b. codes ":" ++ hex_pair b) bytes)
more_pairs [] = tt
more_pairs (b ∷ bytes) = ((λ space. omega arith), (digit_is_no_space (b / 16), (digit_is_no_space (b % 16), more_pairs bytes)))

pub pairs : (bytes : List ℕ) → Plain (pairs_text bytes)
pairs [] = record { bytes = tt }
pairs (b ∷ bytes) = record { bytes = (digit_is_no_space (b / 16), (digit_is_no_space (b % 16), more_pairs bytes)) }

-- ---- hardware addresses are told apart

digit_one : (d e : ℕ) → d < 16 → e < 16 → digit_char d ≡ digit_char e → d ≡ e
digit_one d e p q =
    elim (nat_lt d 10) as (λ b. nat_lt d 10 ≡ b → cond b (48 + d) (87 + d) ≡ digit_char e → d ≡ e) [
      | true ↦ λ small same. elim (nat_lt e 10) as (λ b. nat_lt e 10 ≡ b → 48 + d ≡ cond b (48 + e) (87 + e) → d ≡ e) [ true ↦ λ small_too is. omega arith | false ↦ λ large is. grind (arith, small, large) ] refl same
      | false ↦ λ large same. elim (nat_lt e 10) as (λ b. nat_lt e 10 ≡ b → 87 + d ≡ cond b (48 + e) (87 + e) → d ≡ e) [ true ↦ λ small is. grind (arith, small, large) | false ↦ λ large_too is. omega arith ] refl same
    ] refl

byte_one : (b c : ℕ) → b < 256 → c < 256 → digit_char (b / 16) ≡ digit_char (c / 16) → digit_char (b % 16) ≡ digit_char (c % 16) → b ≡ c
byte_one b c p q high low =
    let front = digit_one (b / 16) (c / 16) (omega arith) (omega arith) high in
    let back = digit_one (b % 16) (c % 16) (omega arith) (omega arith) low in
    omega arith

-- each number is below 256
abbrev Fit : List ℕ → Type 0
Fit xs = (k : ℕ) → slice_index xs k < 256

more_pairs_one : (xs ys : List ℕ) → Fit xs → Fit ys → flat_map (λ b. codes ":" ++ hex_pair b) xs ≡ flat_map (λ b. codes ":" ++ hex_pair b) ys → xs ≡ ys
more_pairs_one [] [] p q e = refl
more_pairs_one [] (y ∷ ys) p q e = cc e
more_pairs_one (x ∷ xs) [] p q e = cc e
more_pairs_one (x ∷ xs) (y ∷ ys) p q e =
    ap₂ (λ (z : ℕ) (zs : List ℕ). z ∷ zs) (byte_one x y (p 0) (q 0) (cc e) (cc e)) (more_pairs_one xs ys (λ k. p (suc k)) (λ k. q (suc k)) (cc e))

pairs_one : (xs ys : List ℕ) → Fit xs → Fit ys → pairs_text xs ≡ pairs_text ys → xs ≡ ys
pairs_one [] [] p q e = refl
pairs_one [] (y ∷ ys) p q e = cc e
pairs_one (x ∷ xs) [] p q e = cc e
pairs_one (x ∷ xs) (y ∷ ys) p q e =
    ap₂ (λ (z : ℕ) (zs : List ℕ). z ∷ zs) (byte_one x y (p 0) (q 0) (cc e) (cc e)) (more_pairs_one xs ys (λ k. p (suc k)) (λ k. q (suc k)) (cc e))

pub mac_one : (a b : Mac) → IsMac a → IsMac b → mac_text a ≡ mac_text b → a ≡ b
mac_one a b p q e = ap (λ (xs : List ℕ). record { 0 = xs }) (pairs_one a.0 b.0 p.fit q.fit e)

-- ---- texts with a space between are told apart

parts_at_space : (xs ys r s : List ℕ) → AllByRecursion (λ b. b ≢ 32) xs → AllByRecursion (λ b. b ≢ 32) ys → xs ++ 32 ∷ r ≡ ys ++ 32 ∷ s → (xs ≡ ys) × (r ≡ s)
parts_at_space [] [] r s p q e = (refl, cc e)
parts_at_space [] (y ∷ ys) r s p q e = absurd (q.0 (cc e))
parts_at_space (x ∷ xs) [] r s p q e = absurd (p.0 (cc e))
parts_at_space (x ∷ xs) (y ∷ ys) r s p q e =
    let head : x ≡ y = cc e in
    let rest = parts_at_space xs ys r s p.1 q.1 (cc e) in
    (ap₂ (λ (z : ℕ) (zs : List ℕ). z ∷ zs) head rest.0, rest.1)

space_inside : (xs ys r : List ℕ) → AllByRecursion (λ b. b ≢ 32) xs → xs ≡ ys ++ 32 ∷ r → ⊥
space_inside [] [] r p e = cc e
space_inside [] (y ∷ ys) r p e = cc e
space_inside (x ∷ xs) [] r p e = p.0 (cc e)
space_inside (x ∷ xs) (y ∷ ys) r p e = space_inside xs ys r p.1 (cc e)

pub spaced_one : (xs ys : List (List ℕ)) → 0 < length xs → 0 < length ys → AllByRecursion Plain xs → AllByRecursion Plain ys → join_with_byte 32 xs ≡ join_with_byte 32 ys → xs ≡ ys
spaced_one [] ys some others p q e = absurd (omega arith)
spaced_one (x ∷ xs) [] some others p q e = absurd (omega arith)
spaced_one (x ∷ []) (y ∷ []) some others p q e = ap (λ (z : List ℕ). z ∷ []) e
spaced_one (x ∷ []) (y ∷ v ∷ ys) some others p q e = absurd (space_inside x y (join_with_byte 32 (v ∷ ys)) p.0.bytes e)
spaced_one (x ∷ w ∷ xs) (y ∷ []) some others p q e = absurd (space_inside y x (join_with_byte 32 (w ∷ xs)) q.0.bytes (sym e))
spaced_one (x ∷ w ∷ xs) (y ∷ v ∷ ys) some others p q e =
    let parts = parts_at_space x y (join_with_byte 32 (w ∷ xs)) (join_with_byte 32 (v ∷ ys)) p.0.bytes q.0.bytes e in
    ap₂ (λ (z : List ℕ) (zs : List (List ℕ)). z ∷ zs) parts.0 (spaced_one (w ∷ xs) (v ∷ ys) (omega arith) (omega arith) p.1 q.1 parts.1)
