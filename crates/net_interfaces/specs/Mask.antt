-- Masks of IPv4 networks (RFC 950, 2.1).
use Rattle.std.specs.Prelude.{ℕ, zero, suc, List, Option, Some, None, if◌then◌else◌, bytes_eq}
use Rattle.net_addr.specs.declared.address.Addr.{Addr}
use Rattle.net_addr.specs.declared.address.Addr.TheVariants as addr
use Rattle.net_addr.specs.Mask.{mask_octets}
use Rattle.net_interfaces.specs.Address.{v4_of}

-- the length of at most this many bits whose mask the octets are
unfoldable pub length_within : ℕ → List ℕ → Option ℕ
length_within zero octets = if bytes_eq octets (mask_octets 0) then Some 0 else None
length_within (suc most) octets = if bytes_eq octets (mask_octets (suc most)) then Some (suc most)
    else length_within most octets

-- the length whose mask an address is
abbrev pub length_of_mask : Option Addr → Option ℕ
length_of_mask None = None
length_of_mask (Some (addr.V4 mask)) = length_within 32 mask.0
length_of_mask (Some (addr.V6 mask)) = None

-- the length whose mask a text is, as 24 for `255.255.255.0`
abbrev pub mask_of : List ℕ → Option ℕ
mask_of text = length_of_mask (v4_of text)
