-- Numbers as text: decimal, and lower-case hexadecimal of at least some width.
use Rattle.std.specs.Prelude.{ℕ, ◌≡◌, ◌-◌, List, ◌++◌, false, length, replicate}
use Rattle.std.specs.Fmt.{digits}
use Rattle.std.specs.Str.Parse.{IsNumeral, digits_value}

-- the digit 0
abbrev pub zero_digit : ℕ
zero_digit = 48

-- the text is digits of the base, at least one of them and perhaps zeros in front, and they write this number
pub record SpellsNumber (base : ℕ) (text : List ℕ) (number : ℕ) : Type 0 where
  pub digits : IsNumeral base text
  pub value : digits_value base text ≡ number

-- decimal digits without a sign, also with zeros in front
abbrev pub SpellsDecimal : List ℕ → ℕ → Type 0
SpellsDecimal = SpellsNumber 10

-- hexadecimal digits of either case, also with zeros in front
abbrev pub SpellsHex : List ℕ → ℕ → Type 0
SpellsHex = SpellsNumber 16

-- a number in lower-case hexadecimal, with zeros in front to at least so many digits
abbrev pub hex : ℕ → ℕ → List ℕ
hex width number = let shown = digits 16 false number in replicate (width - length shown) zero_digit ++ shown
