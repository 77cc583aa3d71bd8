-- The address that a text is, as a function of the text, is the one that it spells.
use Rattle.std.proofs.Common.{◌≡◌, ℕ, zero, suc, ◌+◌, ◌-◌, ◌*◌, ◌^◌, ◌<◌, ◌≤◌, Bool, true, false, List, [], ◌∷◌, ◌++◌, length, slice_index, replicate, Option, Some, None, option_map, refl, sym, ap, subst, ◌∙◌, arith, inl, inr, lit≤}
use Rattle.std.proofs.Common.{append-nil, length-append, codes, ne_eqb}
use Rattle.std.specs.List.{AllByRecursion}
use Rattle.std.proofs.lemmas.List.{length-replicate}
use Rattle.std.proofs.lemmas.Int.Digits.{digits_value-lt}
use Rattle.std.proofs.Math.Nat.{pow-le-pow_right}
use Rattle.std.proofs.lemmas.Option.{none-some, same_Some}
use Rattle.std.specs.Net.Addr.{segments_of, octets_of}
use Rattle.std.specs.Net.Grammar.{IsDotted, IsGroup, IsGroupsAfter, IsColonHex}
use Rattle.std.specs.Net.Reader.{Read, read_ipv4, read_ipv6, whole_value}
use Rattle.std.proofs.NetLemmas.Options.{map_some}
use Rattle.std.proofs.NetLemmas.Ipv4.{read_ipv4_complete, read_ipv4_sound}
use Rattle.std.proofs.NetLemmas.Ipv6.{read_ipv6_complete, read_ipv6_sound, EndsGroups-nil}
use Rattle.net_addr.specs.declared.address.V4.{V4}
use Rattle.net_addr.specs.declared.address.V6.{V6}
use Rattle.net_addr.specs.declared.address.Addr.{Addr}
use Rattle.net_addr.specs.declared.address.Addr.TheVariants as addr
use Rattle.net_addr.specs.Spelling.{Spells}
use Rattle.net_addr.proofs.OctetLemmas.{octets_of-segments_of, segments_of-octets_of}
use Rattle.net_addr.proofs.SpellingLemmas.{Spells_unique}
use Rattle.net_addr.specs.Width.{bits}
use Rattle.net_interfaces.specs.declared.address.Family.{Family}
use Rattle.net_interfaces.specs.declared.address.Family.TheVariants as family
use Rattle.net_interfaces.specs.Address.{v4, v6, v4_of, v6_of, addr_of, bits_of}

-- there is nothing, where nothing can be there
pub none_unless : {X : Type 0} (o : Option X) → ((x : X) → o ≡ Some x → ⊥) → None ≡ o
none_unless None never = refl
none_unless (Some x) never = absurd (never x refl)

whole_at : (octets : List ℕ) (read : Read (List ℕ)) → read ≡ Some (octets, []) → whole_value read ≡ Some octets
whole_at octets read e = rw e refl

abbrev read_pair : List ℕ → List ℕ → Read (List ℕ)
read_pair found rest = Some (found, rest)

at_end : (found rest octets : List ℕ) → whole_value (read_pair found rest) ≡ Some octets → read_pair found rest ≡ read_pair octets []
at_end found [] octets e = ap (λ (z : List ℕ). read_pair z []) (same_Some found octets e)
at_end found (c ∷ rest) octets e = absurd (none-some octets (rw (ne_eqb (length (c ∷ rest)) 0 (omega arith)) at e))

whole_from : (read : Read (List ℕ)) (octets : List ℕ) → whole_value read ≡ Some octets → read ≡ Some (octets, [])
whole_from None octets e = absurd (none-some octets e)
whole_from (Some p) octets e = at_end p.0 p.1 octets e

-- ---- IPv4

pub spelled_v4 : (text : List ℕ) (a : V4) → Spells text (addr.V4 a) → Some (addr.V4 a) ≡ v4_of text
unfolding v4_of
spelled_v4 text a h =
    let read : read_ipv4 text ≡ Some (a.0, []) = ap read_ipv4 (sym (append-nil text)) ∙ read_ipv4_complete text a.0 [] h (lit≤ tt) in
    sym (ap (option_map v4) (whole_at a.0 (read_ipv4 text) read))

v4_reads : (text octets : List ℕ) → whole_value (read_ipv4 text) ≡ Some octets → Spells text (v4 octets)
v4_reads text octets e =
    let (front, split, dotted) = read_ipv4_sound text octets [] (whole_from (read_ipv4 text) octets e) in
    subst (λ t. IsDotted t octets) (sym (split ∙ append-nil front)) dotted

pub v4_spelled : (text : List ℕ) (a : Addr) → v4_of text ≡ Some a → Spells text a
unfolding v4_of
v4_spelled text a e = map_some v4 (whole_value (read_ipv4 text)) a e λ octets read same. subst (Spells text) same (v4_reads text octets read)

pub v6_is_no_v4 : (text : List ℕ) (b : V6) → Spells text (addr.V6 b) → None ≡ v4_of text
unfolding v4_of
v6_is_no_v4 text b h = none_unless (v4_of text) λ a e. map_some v4 (whole_value (read_ipv4 text)) a e λ octets read same.
    let one : v4 octets ≡ addr.V6 b = Spells_unique text (v4 octets) (addr.V6 b) (v4_reads text octets read) h in
    cc

-- ---- IPv6

abbrev AllSegments : List ℕ → Type 0
AllSegments segments = AllByRecursion (λ s. s < 65536) segments

group_below : (text : List ℕ) (s : ℕ) → IsGroup text s → s < 65536
group_below text s h =
    let below = digits_value-lt 16 text h.0.0.1 in
    let most : 16 ^ length text ≤ 16 ^ 4 = pow-le-pow_right (lit≤ tt) h.1 in
    let value = h.0.1 in
    omega (arith, below, most, value)

dotted_below : (text octets : List ℕ) → IsDotted text octets → AllSegments (segments_of octets)
dotted_below text octets h =
    let two : AllSegments ((h.a * 256 + h.b) ∷ (h.c * 256 + h.d) ∷ []) = (omega (arith, h.fit.0, h.fit.1), (omega (arith, h.fit.2, h.fit.3), tt)) in
    subst (λ o. AllSegments (segments_of o)) (sym h.value) two

groups_below : (ipv4 : Bool) (before text segments : List ℕ) → IsGroupsAfter ipv4 before text segments → AllSegments segments
groups_below ipv4 before text [] h = tt
groups_below ipv4 before text (s ∷ segments) (inl g) = (group_below g.0 s g.3, groups_below ipv4 (codes ":") g.1 segments g.4)
groups_below ipv4 before text (s ∷ segments) (inr g) = subst AllSegments (sym g.5) (dotted_below g.0 g.1 g.4)

all_append : (xs ys : List ℕ) → AllSegments xs → AllSegments ys → AllSegments (xs ++ ys)
all_append [] ys h k = k
all_append (x ∷ xs) ys h k = (h.0, all_append xs ys h.1 k)

all_zero : (n : ℕ) → AllSegments (replicate n 0)
all_zero zero = tt
all_zero (suc n) = (omega arith, all_zero n)

hex_below : (text segments : List ℕ) → IsColonHex text segments → AllSegments segments
hex_below text segments (inl whole) = groups_below true [] text segments whole.0
hex_below text segments (inr h) = subst AllSegments (sym h.value)
    (all_append (h.head ++ replicate (8 - length h.head - length h.tail) 0) h.tail
    (all_append h.head (replicate (8 - length h.head - length h.tail) 0) (groups_below false [] h.head_text h.head h.head_groups) (all_zero (8 - length h.head - length h.tail)))
    (groups_below true [] h.tail_text h.tail h.tail_groups))

hex_count : (text segments : List ℕ) → IsColonHex text segments → length segments ≡ 8
hex_count text segments (inl whole) = whole.1
hex_count text segments (inr h) =
    let room = h.room in
    let zeros = length-replicate {A = ℕ} (8 - length h.head - length h.tail) 0 in
    let all = length-append (h.head ++ replicate (8 - length h.head - length h.tail) 0) h.tail in
    let front = length-append h.head (replicate (8 - length h.head - length h.tail) 0) in
    ap length h.value ∙ omega (arith, room, zeros, all, front)

count_of_octets : (segments : List ℕ) → length (octets_of segments) ≡ 2 * length segments
count_of_octets [] = refl
count_of_octets (s ∷ segments) = omega (arith, count_of_octets segments)

octets_below : (segments : List ℕ) → AllSegments segments → (k : ℕ) → slice_index (octets_of segments) k < 256
octets_below [] h k = omega arith
octets_below (s ∷ segments) h zero = let most = h.0 in omega (arith, most)
octets_below (s ∷ segments) h (suc zero) = omega arith
octets_below (s ∷ segments) h (suc (suc k)) = octets_below segments h.1 k

pub spelled_v6 : (text : List ℕ) (a : V6) → Spells text (addr.V6 a) → Some (addr.V6 a) ≡ v6_of text
unfolding v6_of
spelled_v6 text a h =
    let read : read_ipv6 text ≡ Some (segments_of a.0, []) = ap read_ipv6 (sym (append-nil text)) ∙ read_ipv6_complete text (segments_of a.0) [] h.1 EndsGroups-nil in
    let back : octets_of (segments_of a.0) ≡ a.0 = octets_of-segments_of 8 a.0 h.0.count h.0.fit in
    sym (ap (option_map (λ segments. v6 (octets_of segments))) (whole_at (segments_of a.0) (read_ipv6 text) read) ∙ ap (λ (z : List ℕ). Some (v6 z)) back)

v6_reads : (text segments : List ℕ) → whole_value (read_ipv6 text) ≡ Some segments → Spells text (v6 (octets_of segments))
v6_reads text segments e =
    let (front, split, shown) = read_ipv6_sound text segments [] (whole_from (read_ipv6 text) segments e) in
    let hex : IsColonHex text segments = subst (λ t. IsColonHex t segments) (sym (split ∙ append-nil front)) shown in
    let eight : length segments ≡ 8 = hex_count text segments hex in
    let count : length (octets_of segments) ≡ 16 = omega (arith, count_of_octets segments) in
    (record { count = count; fit = octets_below segments (hex_below text segments hex) }, subst (IsColonHex text) (sym (segments_of-octets_of segments)) hex)

pub v6_spelled : (text : List ℕ) (a : Addr) → v6_of text ≡ Some a → Spells text a
unfolding v6_of
v6_spelled text a e = map_some (λ segments. v6 (octets_of segments)) (whole_value (read_ipv6 text)) a e λ segments read same. subst (Spells text) same (v6_reads text segments read)

pub v4_is_no_v6 : (text : List ℕ) (b : V4) → Spells text (addr.V4 b) → None ≡ v6_of text
unfolding v6_of
v4_is_no_v6 text b h = none_unless (v6_of text) λ a e. map_some (λ segments. v6 (octets_of segments)) (whole_value (read_ipv6 text)) a e λ segments read same.
    let one : v6 (octets_of segments) ≡ addr.V4 b = Spells_unique text (v6 (octets_of segments)) (addr.V4 b) (v6_reads text segments read) h in
    cc

-- ---- both

v4_wide : (text : List ℕ) (a : Addr) → v4_of text ≡ Some a → bits a ≡ 32
unfolding v4_of
v4_wide text a e = map_some v4 (whole_value (read_ipv4 text)) a e λ octets read same. ap bits (sym same)

v6_wide : (text : List ℕ) (a : Addr) → v6_of text ≡ Some a → bits a ≡ 128
unfolding v6_of
v6_wide text a e = map_some (λ segments. v6 (octets_of segments)) (whole_value (read_ipv6 text)) a e λ segments read same. ap bits (sym same)

pub found_is_spelled : (family : Family) (text : List ℕ) (a : Addr) → addr_of family text ≡ Some a → Spells text a
found_is_spelled family.V4 text a e = v4_spelled text a e
found_is_spelled family.V6 text a e = v6_spelled text a e

pub found_is_wide : (family : Family) (text : List ℕ) (a : Addr) → addr_of family text ≡ Some a → bits a ≡ bits_of family
found_is_wide family.V4 text a e = v4_wide text a e
found_is_wide family.V6 text a e = v6_wide text a e

pub spelled_is_found : (family : Family) (text : List ℕ) (a : Addr) → Spells text a → bits a ≡ bits_of family → addr_of family text ≡ Some a
spelled_is_found family.V4 text (addr.V4 a) h wide = sym (spelled_v4 text a h)
spelled_is_found family.V4 text (addr.V6 a) h wide = absurd (omega arith)
spelled_is_found family.V6 text (addr.V4 a) h wide = absurd (omega arith)
spelled_is_found family.V6 text (addr.V6 a) h wide = sym (spelled_v6 text a h)
