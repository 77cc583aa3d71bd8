-- The texts that stand for a prefix, and why another text does not (RFC 4632, 3.1; RFC 4291, 2.3).
use Rattle.std.specs.Prelude.{ℕ, ◌==◌, ◌≤◌, List, ◌++◌, ◌≡◌, codes, length}
use Rattle.std.specs.List.{before_first}
use Rattle.std.specs.Net.Grammar.{IsNumber}
use Rattle.net_addr.specs.declared.address.Addr.{Addr}
use Rattle.net_addr.specs.declared.error.AddrError.{AddrError}
use Rattle.net_addr.specs.declared.error.AddrError.TheVariants.{BadAddress, BadMask, BadLength}
use Rattle.net_addr.specs.Byte.{slash}
use Rattle.net_addr.specs.Spelling.{Spells}
use Rattle.net_addr.specs.Width.{bits}

-- one to three decimal digits, which may have leading zeros
abbrev pub SpellsLength : List ℕ → ℕ → Type 0
SpellsLength text n = IsNumber 10 text n × (length text ≤ 3)

-- a slash and the digits of a length
abbrev pub SpellsSuffix : List ℕ → ℕ → Type 0
SpellsSuffix text n = (digits : List ℕ) × (text ≡ codes "/" ++ digits) × SpellsLength digits n

-- the text is that of an address, a slash, and a length that the address has room for
pub record SpellsCidr (text : List ℕ) (c : Addr × ℕ) : Type 0 where
  pub address : List ℕ
  pub digits : List ℕ
  pub spelled : text ≡ address ++ codes "/" ++ digits
  pub address_text : Spells address c.0
  pub length_text : SpellsLength digits c.1
  pub room : c.1 ≤ bits c.0

-- what stands before the first slash, or the whole text where there is none
abbrev pub before_slash : List ℕ → List ℕ
before_slash text = before_first (λ b. b == slash) text

-- Why a text is no prefix: what stands before the first slash is no address; or it is one, and no
-- length that it has room for follows.
abbrev pub IsRefusal : List ℕ → AddrError → Type 0
IsRefusal text BadAddress = (a : Addr) → ¬ (Spells (before_slash text) a)
IsRefusal text BadMask = ⊥
IsRefusal text BadLength = ((a : Addr) × Spells (before_slash text) a)
    × ((c : Addr × ℕ) → ¬ (SpellsCidr text c))
