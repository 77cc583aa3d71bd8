-- The network of a prefix: its address with the host bits cleared (RFC 4632, 3.1).
use Rattle.std.specs.Prelude.{ℕ, ◌-◌, List, [], ◌∷◌}
use Rattle.net_addr.specs.declared.address.Addr.{Addr}
use Rattle.net_addr.specs.declared.address.Addr.TheVariants as addr
use Rattle.net_addr.specs.Network.{without_low_bits}
use Rattle.net_interfaces.specs.Address.{v4, v6}

-- octets whose first bits, this many, are kept, and whose others are zero
abbrev pub cleared : ℕ → List ℕ → List ℕ
cleared kept [] = []
cleared kept (octet ∷ octets) = without_low_bits (8 - kept) octet ∷ cleared (kept - 8) octets

abbrev pub cleared_addr : ℕ → Addr → Addr
cleared_addr kept (addr.V4 a) = v4 (cleared kept a.0)
cleared_addr kept (addr.V6 a) = v6 (cleared kept a.0)

-- the prefix without its host bits
abbrev pub network : Addr × ℕ → Addr × ℕ
network cidr = (cleared_addr cidr.1 cidr.0, cidr.1)
