-- The texts that stand for a prefix of an interface or a route.
use Rattle.std.specs.Prelude.{ℕ, ◌≡◌, ◌⊎◌, List}
use Rattle.net_addr.specs.declared.address.Addr.{Addr}
use Rattle.net_addr.specs.Spelling.{Spells}
use Rattle.net_addr.specs.CidrSpelling.{SpellsCidr}

-- the text is that of a prefix, or that of its address alone, and its length is then `alone`
abbrev pub SpellsPrefix : ℕ → List ℕ → Addr × ℕ → Type 0
SpellsPrefix alone text cidr = SpellsCidr text cidr ⊎ (Spells text cidr.0 × (cidr.1 ≡ alone))
