-- The texts that stand for an address.
use Rattle.std.specs.Prelude.{ℕ, List}
use Rattle.std.specs.Net.Addr.{segments_of}
use Rattle.std.specs.Net.Grammar.{IsDotted, IsColonHex}
use Rattle.net_addr.specs.declared.address.Addr.{Addr}
use Rattle.net_addr.specs.declared.address.Addr.TheVariants as Family
use Rattle.net_addr.specs.Octets.{AreOctets}

-- The text is one of the address. For IPv4 that is dotted decimal: four numbers below 256 with no
-- leading zeros. For IPv6 it is any text of RFC 4291, 2.2: groups of one to four hex digits, of
-- which one or more that are zero may be left out at one `::`, and the last two may be in dotted
-- decimal.
abbrev pub Spells : List ℕ → Addr → Type 0
Spells text (Family.V4 a) = IsDotted text a.0
Spells text (Family.V6 a) = AreOctets 16 a.0 × IsColonHex text (segments_of a.0)
