-- The tests of addresses and prefixes tell what std reads.
use Rattle.std.proofs.Common.{ℕ, ◌≡◌, ◌==◌, Bool, true, false, List, [], ◌∷◌, length, Some, None, refl, sym, ◌∙◌, ap, subst, arith, append-nil, lit≤, ne_eqb, ◌&&◌}
use Rattle.std.specs.Prelude.{is_some, if◌then◌else◌}
use Rattle.std.specs.declared.net.ipv4_addr.Ipv4Addr.{Ipv4Addr}
use Rattle.std.specs.declared.net.ipv6_addr.Ipv6Addr.{Ipv6Addr}
use Rattle.std.specs.Net.Grammar.{IsDotted, IsColonHex, IsIpv4Text, IsIpv6Text}
use Rattle.std.specs.Net.Reader.{Read, read_ipv4, read_ipv6, whole_value}
use Rattle.std.proofs.NetLemmas.Ipv4.{read_ipv4_complete, read_ipv4_sound}
use Rattle.std.proofs.NetLemmas.Ipv6.{read_ipv6_complete, read_ipv6_sound, EndsGroups-nil}
use Rattle.net_addr.specs.Byte.{slash}
use Rattle.net_rows.specs.Cut.{HasNone, CutsAtFirst, first_cut}
use Rattle.net_rows.proofs.CutLemmas.{is_first_cut, no_first_cut}
use Rattle.uci_types.specs.Address.{is_ipv4, is_ipv6, is_cut_prefix, is_length}

-- what reads to its end
whole_read : {A : Type 0} (read : Read A) → is_some (whole_value read) ≡ true → (value : A) × (read ≡ Some (value, []))
whole_read None e = absurd (let k : false ≡ true = e in cc)
whole_read (Some (value, [])) e = (value, refl)
whole_read (Some (value, b ∷ bs)) e = absurd (left_over (ne_eqb (length (b ∷ bs)) 0 (omega arith)))
  where
    left_over : (length (b ∷ bs) == 0) ≡ false → ⊥
    left_over some = let k : false ≡ true = sym (ap (λ (t : Bool). is_some (if t then Some value else None)) some) ∙ e in cc

pub ipv4_from : (text octets : List ℕ) → IsDotted text octets → is_ipv4 text ≡ true
ipv4_from text octets h =
    ap (λ (r : Read (List ℕ)). is_some (whole_value r)) (ap read_ipv4 (sym (append-nil text)) ∙ read_ipv4_complete text octets [] h (lit≤ tt))

pub ipv6_from : (text segments : List ℕ) → IsColonHex text segments → is_ipv6 text ≡ true
ipv6_from text segments h =
    ap (λ (r : Read (List ℕ)). is_some (whole_value r)) (ap read_ipv6 (sym (append-nil text)) ∙ read_ipv6_complete text segments [] h EndsGroups-nil)

pub ipv4_is : (text : List ℕ) → is_ipv4 text ≡ true → (octets : List ℕ) × IsDotted text octets
ipv4_is text e =
    let r = whole_read (read_ipv4 text) e in
    let s = read_ipv4_sound text r.0 [] r.1 in
    (r.0, subst (λ t. IsDotted t r.0) (sym (s.1 ∙ append-nil s.0)) s.2)

pub ipv6_is : (text : List ℕ) → is_ipv6 text ≡ true → (segments : List ℕ) × IsColonHex text segments
ipv6_is text e =
    let r = whole_read (read_ipv6 text) e in
    let s = read_ipv6_sound text r.0 [] r.1 in
    (r.0, subst (λ t. IsColonHex t r.0) (sym (s.1 ∙ append-nil s.0)) s.2)

-- a test that cannot hold is false
pub not_so : (b : Bool) → (b ≡ true → ⊥) → false ≡ b
not_so true h = absurd (h refl)
not_so false h = refl

pub no_ipv4 : (text : List ℕ) → ((a : Ipv4Addr) → ¬ (IsIpv4Text text a)) → false ≡ is_ipv4 text
no_ipv4 text none = not_so (is_ipv4 text) (λ e. let r = ipv4_is text e in none (record { octets = r.0 }) r.1)

pub no_ipv6 : (text : List ℕ) → ((a : Ipv6Addr) → ¬ (IsIpv6Text text a)) → false ≡ is_ipv6 text
no_ipv6 text none = not_so (is_ipv6 text) (λ e. let r = ipv6_is text e in none (record { segments = r.0 }) r.1)

-- a prefix is judged by the parts of its cut
pub prefix_cut : (test : List ℕ → Bool) (most : ℕ) (text address digits : List ℕ) → CutsAtFirst slash text address digits → is_cut_prefix test most (first_cut slash text) ≡ (test address && is_length most digits)
prefix_cut test most text address digits cut = ap (is_cut_prefix test most) (is_first_cut slash text address digits cut)

pub no_prefix : (test : List ℕ → Bool) (most : ℕ) (text : List ℕ) → HasNone slash text → false ≡ is_cut_prefix test most (first_cut slash text)
no_prefix test most text none = sym (ap (is_cut_prefix test most) (no_first_cut slash text none))
