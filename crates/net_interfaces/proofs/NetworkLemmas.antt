-- The prefix without its host bits is the one network of it.
use Rattle.std.proofs.Common.{◌≡◌, ℕ, zero, suc, ◌-◌, ◌*◌, ◌^◌, ◌<◌, List, [], ◌∷◌, length, slice_index, refl, ap, ◌∙◌, arith}
use Rattle.std.proofs.Math.Nat.{div-mul-le_self}
use Rattle.net_addr.specs.declared.address.Addr.{Addr}
use Rattle.net_addr.specs.declared.address.Addr.TheVariants as addr
use Rattle.net_addr.specs.Octets.{AreOctets, IsAddr}
use Rattle.net_addr.specs.Network.{IsNetworkOf, without_low_bits}
use Rattle.net_addr.proofs.NetworkLemmas.{network_from_octets, IsNetworkOf_unique}
use Rattle.net_interfaces.specs.Address.{v4, v6}
use Rattle.net_interfaces.specs.Network.{cleared, cleared_addr, network}

length-cleared : (kept : ℕ) (octets : List ℕ) → length (cleared kept octets) ≡ length octets
length-cleared kept [] = refl
length-cleared kept (octet ∷ octets) = ap (λ n. suc n) (length-cleared (kept - 8) octets)

each_cleared : (octets : List ℕ) (kept i : ℕ) → i < length octets → slice_index (cleared kept octets) i ≡ without_low_bits (8 - (kept - 8 * i)) (slice_index octets i)
each_cleared [] kept i within = absurd (omega arith)
each_cleared (octet ∷ octets) kept zero within =
    let first : kept ≡ kept - 8 * 0 = omega arith in
    ap (λ n. without_low_bits (8 - n) octet) first
each_cleared (octet ∷ octets) kept (suc i) within =
    let next : kept - 8 - 8 * i ≡ kept - 8 * suc i = omega arith in
    each_cleared octets (kept - 8) i (omega arith) ∙ ap (λ n. without_low_bits (8 - n) (slice_index octets i)) next

no_more : (n octet : ℕ) → octet < 256 → without_low_bits n octet < 256
no_more n octet small = let less = div-mul-le_self octet (2 ^ n) in omega (arith, less)

cleared_below : (octets : List ℕ) (kept : ℕ) → ((k : ℕ) → slice_index octets k < 256) → (k : ℕ) → slice_index (cleared kept octets) k < 256
cleared_below [] kept fit k = fit k
cleared_below (octet ∷ octets) kept fit zero = no_more (8 - kept) octet (fit 0)
cleared_below (octet ∷ octets) kept fit (suc k) = cleared_below octets (kept - 8) (λ j. fit (suc j)) k

cleared_octets : (n kept : ℕ) (octets : List ℕ) → AreOctets n octets → AreOctets n (cleared kept octets)
cleared_octets n kept octets h = record { count = length-cleared kept octets ∙ h.count; fit = cleared_below octets kept h.fit }

cleared_is_addr : (a : Addr) (kept : ℕ) → IsAddr a → IsAddr (cleared_addr kept a)
cleared_is_addr (addr.V4 a) kept h = cleared_octets 4 kept a.0 h
cleared_is_addr (addr.V6 a) kept h = cleared_octets 16 kept a.0 h

at_address : (a : Addr) (n : ℕ) → IsNetworkOf (a, n) (cleared_addr n a, n)
at_address (addr.V4 a) n = network_from_octets (addr.V4 a, n) (addr.V4 a) (v4 (cleared n a.0)) n refl refl (length-cleared n a.0) (λ i within. each_cleared a.0 n i within)
at_address (addr.V6 a) n = network_from_octets (addr.V6 a, n) (addr.V6 a) (v6 (cleared n a.0)) n refl refl (length-cleared n a.0) (λ i within. each_cleared a.0 n i within)

pub is_network : (c : Addr × ℕ) → IsNetworkOf c (network c)
is_network c = at_address c.0 c.1

pub network_is : (c n : Addr × ℕ) → IsAddr c.0 → IsAddr n.0 → IsNetworkOf c n → n ≡ network c
network_is c n form own found = IsNetworkOf_unique c n (network c) own (cleared_is_addr c.0 c.1 form) found (is_network c)
