-- The one text in which an address, or a prefix, is printed.
use Rattle.std.specs.Prelude.{ℕ, List, ◌++◌, codes, decimal}
use Rattle.std.specs.Net.Addr.{segments_of}
use Rattle.std.specs.Net.Text.{ipv4_text, hex_groups_text}
use Rattle.net_addr.specs.declared.address.Addr.{Addr}
use Rattle.net_addr.specs.declared.address.Addr.TheVariants as Family

-- four octets in dotted decimal, with no leading zeros
abbrev pub v4_text : List ℕ → List ℕ
v4_text xs = ipv4_text xs

-- Sixteen octets as eight groups in lower-case hex with no leading zeros. The longest run of two or
-- more zero groups, and of two as long the first, is `::` (RFC 5952, 4). No group is in dotted
-- decimal.
abbrev pub v6_text : List ℕ → List ℕ
v6_text xs = hex_groups_text (segments_of xs)

-- the text of an address
abbrev pub addr_text : Addr → List ℕ
addr_text (Family.V4 a) = v4_text a.0
addr_text (Family.V6 a) = v6_text a.0

-- the address, a slash and the length in decimal (RFC 4632, 3.1; RFC 4291, 2.3)
abbrev pub cidr_text : Addr × ℕ → List ℕ
cidr_text c = addr_text c.0 ++ codes "/" ++ decimal c.1
