-- Texts of addresses and of prefixes, as tests.
use Rattle.std.specs.Prelude.{ℕ, Bool, false, ◌&&◌, List, Option, Some, None, is_some, length, nat_le}
use Rattle.std.specs.Net.Reader.{read_ipv4, read_ipv6, whole_value}
use Rattle.net_addr.specs.Byte.{slash}
use Rattle.net_rows.specs.Cut.{first_cut}
use Rattle.net_rows.specs.Number.{number_within}

-- the whole text reads as an IPv4 address, as an IPv6 address
abbrev pub is_ipv4 : List ℕ → Bool
is_ipv4 text = is_some (whole_value (read_ipv4 text))

abbrev pub is_ipv6 : List ℕ → Bool
is_ipv6 text = is_some (whole_value (read_ipv6 text))

-- one to three decimal digits of a number that is at most this one
abbrev pub is_length : ℕ → List ℕ → Bool
is_length most digits = nat_le (length digits) 3 && is_some (number_within 0 most digits)

-- an address in front of a slash, and a length behind it
abbrev pub is_cut_prefix : (List ℕ → Bool) → ℕ → Option (List ℕ × List ℕ) → Bool
is_cut_prefix is_address most None = false
is_cut_prefix is_address most (Some cut) = is_address cut.0 && is_length most cut.1

-- an address, the first slash and a length that the address has room for
abbrev pub is_cidr4 : List ℕ → Bool
is_cidr4 text = is_cut_prefix is_ipv4 32 (first_cut slash text)

abbrev pub is_cidr6 : List ℕ → Bool
is_cidr6 text = is_cut_prefix is_ipv6 128 (first_cut slash text)
