-- Addresses of one family.
use Rattle.std.specs.Prelude.{ℕ, List, Option, option_map}
use Rattle.std.specs.Net.Addr.{octets_of}
use Rattle.std.specs.Net.Reader.{read_ipv4, read_ipv6, whole_value}
use Rattle.net_addr.specs.declared.address.Addr.{Addr}
use Rattle.net_addr.specs.declared.address.Addr.TheVariants as addr
use Rattle.net_interfaces.specs.declared.address.Family.{Family}
use Rattle.net_interfaces.specs.declared.address.Family.TheVariants.{V4, V6}

-- the address of these octets
abbrev pub v4 : List ℕ → Addr
v4 octets = addr.V4 (record { 0 = octets })

abbrev pub v6 : List ℕ → Addr
v6 octets = addr.V6 (record { 0 = octets })

-- the IPv4 address that a text is: four decimals with dots between them (RFC 791)
unfoldable pub v4_of : List ℕ → Option Addr
v4_of text = option_map v4 (whole_value (read_ipv4 text))

-- the IPv6 address that a text is (RFC 4291, 2.2)
unfoldable pub v6_of : List ℕ → Option Addr
v6_of text = option_map (λ segments. v6 (octets_of segments)) (whole_value (read_ipv6 text))

-- the address of a family that a text is
abbrev pub addr_of : Family → List ℕ → Option Addr
addr_of V4 text = v4_of text
addr_of V6 text = v6_of text

-- how many bits an address of a family has
abbrev pub bits_of : Family → ℕ
bits_of V4 = 32
bits_of V6 = 128
