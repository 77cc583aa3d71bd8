-- Octets, the numbers of 8 bits that an address is made of (RFC 791, 3.1; RFC 4291, 2).
use Rattle.std.specs.Prelude.{◌≡◌, ℕ, ◌<◌, ⊤, List, length, slice_index}
use Rattle.net_addr.specs.declared.address.Addr.{Addr}
use Rattle.net_addr.specs.declared.address.Addr.TheVariants as Family

-- n numbers, each below 256, which the types of the program keep and a list of numbers does not
pub record AreOctets (n : ℕ) (xs : List ℕ) : Type 0 where
  pub count : length xs ≡ n
  pub fit : (k : ℕ) → slice_index xs k < 256

-- the octets of an address, the most significant first
abbrev pub octets : Addr → List ℕ
octets (Family.V4 a) = a.0
octets (Family.V6 a) = a.0

-- an address of the program: four octets for IPv4 (RFC 791, 3.1), sixteen for IPv6 (RFC 4291, 2)
abbrev pub IsAddr : Addr → Type 0
IsAddr (Family.V4 a) = AreOctets 4 a.0
IsAddr (Family.V6 a) = AreOctets 16 a.0

-- the address is IPv4
abbrev pub IsV4 : Addr → Type 0
IsV4 (Family.V4 a) = ⊤
IsV4 (Family.V6 a) = ⊥
