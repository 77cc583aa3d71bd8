-- Prefixes: A/L, an address and a length, or A alone (RFC 4632, 3.1; RFC 4291, 2.3).
use Rattle.std.specs.Prelude.{ℕ, nat_lt, List, length, Option, Some, None, if◌then◌else◌}
use Rattle.net_addr.specs.declared.address.Addr.{Addr}
use Rattle.net_addr.specs.Byte.{slash}
use Rattle.net_rows.specs.Cut.{first_cut}
use Rattle.net_rows.specs.Number.{number_within}
use Rattle.net_interfaces.specs.declared.address.Family.{Family}
use Rattle.net_interfaces.specs.Address.{addr_of, bits_of}

-- one to three decimal digits, which are at most as many bits as an address has
abbrev pub length_of : Family → List ℕ → Option ℕ
length_of family digits = if nat_lt 3 (length digits) then None else number_within 0 (bits_of family) digits

-- an address with a length, where both are there
abbrev pub both : Option Addr → Option ℕ → Option (Addr × ℕ)
both None size = None
both (Some addr) None = None
both (Some addr) (Some size) = Some (addr, size)

-- what is cut at a slash is A/L, and else the text is A alone
abbrev pub prefix_at : Family → ℕ → List ℕ → Option (List ℕ × List ℕ) → Option (Addr × ℕ)
prefix_at family alone text None = both (addr_of family text) (Some alone)
prefix_at family alone text (Some cut) = both (addr_of family cut.0) (length_of family cut.1)

-- the prefix that a text is, where A alone has the length `alone`
abbrev pub prefix_of : Family → ℕ → List ℕ → Option (Addr × ℕ)
prefix_of family alone text = prefix_at family alone text (first_cut slash text)
