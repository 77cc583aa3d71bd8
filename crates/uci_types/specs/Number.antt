-- Numbers as values and as bounds: at most 38 decimal digits, which 128 bits with a sign hold.
use Rattle.std.specs.Prelude.{ℕ, ℤ, pos, neg_ℤ, Bool, false, ◌&&◌, ◌==◌, List, [], ◌∷◌, Option, Some, None, length}
use Rattle.std.specs.Prelude.{nat_le, if◌then◌else◌}
use Rattle.std.specs.Option.{option_map}
use Rattle.std.specs.Str.Parse.{digits_value}
use Rattle.net_rows.specs.Number.{is_numeral}

-- `-`
abbrev pub minus : ℕ
minus = 45

-- 1 to 38 decimal digits, also with zeros in front
abbrev pub is_natural : List ℕ → Bool
is_natural text = is_numeral text && nat_le (length text) 38

-- the same, perhaps after a `-`
abbrev pub is_integer : List ℕ → Bool
is_integer [] = false
is_integer (byte ∷ bytes) = if byte == minus then is_natural bytes else is_natural (byte ∷ bytes)

-- the number that a text of digits is
abbrev pub natural_of : List ℕ → Option ℕ
natural_of text = if is_natural text then Some (digits_value 10 text) else None

-- the integer that a text is
abbrev pub integer_of : List ℕ → Option ℤ
integer_of [] = None
integer_of (byte ∷ bytes) =
    if byte == minus then option_map (λ number. neg_ℤ (pos number)) (natural_of bytes)
    else option_map pos (natural_of (byte ∷ bytes))
