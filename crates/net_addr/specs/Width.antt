-- How long an address is, and so how long a prefix of it may be (RFC 4632, 3.1; RFC 4291, 2.3).
use Rattle.std.specs.Prelude.{ℕ, ◌≤◌}
use Rattle.net_addr.specs.declared.address.Addr.{Addr}
use Rattle.net_addr.specs.declared.address.Addr.TheVariants as Family
use Rattle.net_addr.specs.Octets.{IsAddr}

-- how many bits an address has
abbrev pub bits : Addr → ℕ
bits (Family.V4 a) = 32
bits (Family.V6 a) = 128

-- an address, and a prefix length that it has room for
abbrev pub IsCidr : Addr × ℕ → Type 0
IsCidr c = IsAddr c.0 × (c.1 ≤ bits c.0)
