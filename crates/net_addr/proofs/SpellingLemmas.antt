-- A text spells one address at most, and a printed text spells the address that was printed.
use Rattle.std.proofs.Common.{◌≡◌, ℕ, List, length, sym, ap, ◌∙◌}
use Rattle.std.specs.declared.net.ipv4_addr.Ipv4Addr.{Ipv4Addr}
use Rattle.std.specs.declared.net.ipv6_addr.Ipv6Addr.{Ipv6Addr}
use Rattle.std.specs.declared.net.ip_addr.IpAddr.{IpAddr}
use Rattle.std.specs.declared.net.ip_addr.IpAddr.TheVariants as Ip
use Rattle.std.specs.Net.Addr.{segments_of, octets_of}
use Rattle.std.specs.Net.Grammar.{IsIpText}
use Rattle.std.proofs.NetLemmas.Ipv6.{IsDotted-not_colon_hex}
use Rattle.std.proofs.NetLemmas.Theorems.{IsIpv4Text_unique, IsIpv6Text_unique}
use Rattle.std.proofs.NetLemmas.Texts.{IsDotted-ipv4_text, IsColonHex-hex_groups_text}
use Rattle.net_addr.specs.declared.address.Addr.{Addr}
use Rattle.net_addr.specs.declared.address.Addr.TheVariants as Family
use Rattle.net_addr.specs.Octets.{IsAddr}
use Rattle.net_addr.specs.Spelling.{Spells}
use Rattle.net_addr.specs.Printed.{addr_text}
use Rattle.net_addr.proofs.OctetLemmas.{four_below, octets_of-segments_of, length-segments_of, segments_below}

-- the address in std's types
abbrev pub std_addr : Addr → IpAddr
std_addr (Family.V4 a) = Ip.V4 (record { octets = a.0 })
std_addr (Family.V6 a) = Ip.V6 (record { segments = segments_of a.0 })

pub IsIpText-std_addr : (text : List ℕ) (a : Addr) → Spells text a → IsIpText text (std_addr a)
IsIpText-std_addr text (Family.V4 a) h = h
IsIpText-std_addr text (Family.V6 a) h = h.1

pub Spells_unique : (text : List ℕ) (a b : Addr) → Spells text a → Spells text b → a ≡ b
Spells_unique text (Family.V4 a) (Family.V4 b) h k =
    let same : a.0 ≡ b.0 = ap (λ (x : Ipv4Addr). x.octets) (IsIpv4Text_unique text (record { octets = a.0 }) (record { octets = b.0 }) h k) in
    ap (λ (xs : List ℕ). Family.V4 (record { 0 = xs })) same
Spells_unique text (Family.V4 a) (Family.V6 b) h k = absurd (IsDotted-not_colon_hex text _ _ h k.1)
Spells_unique text (Family.V6 a) (Family.V4 b) h k = absurd (IsDotted-not_colon_hex text _ _ k h.1)
Spells_unique text (Family.V6 a) (Family.V6 b) h k =
    let same : segments_of a.0 ≡ segments_of b.0 = ap (λ (x : Ipv6Addr). x.segments) (IsIpv6Text_unique text (record { segments = segments_of a.0 }) (record { segments = segments_of b.0 }) h.1 k.1) in
    let octets : a.0 ≡ b.0 = sym (octets_of-segments_of 8 a.0 h.0.count h.0.fit) ∙ ap octets_of same ∙ octets_of-segments_of 8 b.0 k.0.count k.0.fit in
    ap (λ (xs : List ℕ). Family.V6 (record { 0 = xs })) octets

pub Spells-addr_text : (a : Addr) → IsAddr a → Spells (addr_text a) a
Spells-addr_text (Family.V4 a) h = IsDotted-ipv4_text a.0 h.count h.fit
Spells-addr_text (Family.V6 a) h = (h, IsColonHex-hex_groups_text (segments_of a.0) (length-segments_of 8 a.0 h.count) (segments_below a.0 h.fit))

-- an address that some text spells has octets in range
pub IsAddr-from_spelled : (text : List ℕ) (a : Addr) → Spells text a → IsAddr a
IsAddr-from_spelled text (Family.V4 a) h = record {
  count = ap length h.value;
  fit = λ k. rw h.value (four_below h.a h.b h.c h.d k h.fit.0 h.fit.1 h.fit.2 h.fit.3);
}
IsAddr-from_spelled text (Family.V6 a) h = h.0
