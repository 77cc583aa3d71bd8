-- The network of a prefix: its address with the host bits cleared (RFC 4632, 3.1).
use Rattle.std.specs.Prelude.{◌≡◌, ℕ, ◌-◌, ◌*◌, ◌/◌, ◌%◌, ◌^◌, ◌<◌, ◌≤◌, List, slice_index}
use Rattle.std.specs.Int.{bit_at}
use Rattle.net_addr.specs.declared.address.Addr.{Addr}
use Rattle.net_addr.specs.Octets.{octets}
use Rattle.net_addr.specs.Width.{bits}

-- bit k of the octets, where bit 0 is the most significant of the first octet (RFC 791, appendix B)
abbrev pub bit_of : List ℕ → ℕ → ℕ
bit_of xs k = bit_at (slice_index xs (k / 8)) (7 - k % 8)

-- n has the family, the length and the first bits of c, as many as the length says, and zeros
-- after them
pub record IsNetworkOf (c n : Addr × ℕ) : Type 0 where
  pub family : bits n.0 ≡ bits c.0
  pub same_length : n.1 ≡ c.1
  pub prefix : (k : ℕ) → k < c.1 → bit_of (octets n.0) k ≡ bit_of (octets c.0) k
  pub hosts : (k : ℕ) → c.1 ≤ k → bit_of (octets n.0) k ≡ 0

-- the octet without its lowest n bits
abbrev pub without_low_bits : ℕ → ℕ → ℕ
without_low_bits n octet = octet / 2 ^ n * 2 ^ n
