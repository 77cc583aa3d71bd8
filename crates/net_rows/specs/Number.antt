-- Decimals of 32 bits.
use Rattle.std.specs.Prelude.{ℕ, Bool, false, ◌||◌, ◌==◌, length, nat_lt, List, Option, Some, None, if◌then◌else◌}
use Rattle.std.specs.List.{list_all}
use Rattle.std.specs.Char.{is_ascii_digit}
use Rattle.std.specs.Option.{option_and_then}
use Rattle.std.specs.Str.Parse.{digits_value}

-- one decimal digit or more, and nothing else
abbrev pub is_numeral : List ℕ → Bool
is_numeral text = if length text == 0 then false else list_all is_ascii_digit text

-- a number of 32 bits
abbrev pub of_32_bits : ℕ → Option ℕ
of_32_bits number = if nat_lt number 4294967296 then Some number else None

-- the number that a numeral is, where it has 32 bits; zeros may stand in front
abbrev pub decimal_of : List ℕ → Option ℕ
decimal_of text = if is_numeral text then of_32_bits (digits_value 10 text) else None

-- a number that is within bounds
abbrev pub within : ℕ → ℕ → ℕ → Option ℕ
within least most number = if nat_lt number least || nat_lt most number then None else Some number

-- the number that a numeral is, where it is within bounds
abbrev pub number_within : ℕ → ℕ → List ℕ → Option ℕ
number_within least most text = option_and_then (within least most) (decimal_of text)
