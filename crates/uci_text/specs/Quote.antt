-- How a value is quoted (OpenWrt's UCI file syntax).
use Rattle.std.specs.Prelude.{ℕ, ◌≡◌, List, [], ◌∷◌, ◌++◌, nat_eq, codes, if◌then◌else◌}
use Rattle.std.specs.List.{flat_map}
use Rattle.uci_text.specs.declared.byte_class.ByteClass.TheVariants.{NotZero}
use Rattle.uci_text.specs.Byte.{single_quote}
use Rattle.uci_text.specs.ByteClass.{AllIn}
use Rattle.uci_text.specs.Word.{SpellsWord}

-- a byte between single quotes; a single quote is written '\''
abbrev pub quoted_byte : ℕ → List ℕ
quoted_byte byte = if nat_eq byte single_quote then codes "'\\''" else byte ∷ []

-- the value between single quotes
abbrev pub quoted : List ℕ → List ℕ
quoted value = single_quote ∷ flat_map quoted_byte value ++ single_quote ∷ []

-- Where the value has no zero byte, the text is a word that spells it, and has none either. A text with a zero byte is
-- never read, so nothing is said of other values.
abbrev pub IsWordFor : List ℕ → List ℕ → Type 0
IsWordFor text value = AllIn NotZero value → SpellsWord text value × AllIn NotZero text

-- the new bytes are the old ones and more
pub record AddsTo (old new : List ℕ) : Type 0 where
  pub more : List ℕ
  pub whole : new ≡ old ++ more
