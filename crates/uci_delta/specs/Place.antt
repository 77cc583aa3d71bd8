-- The place that a reordered section is to get.
use Rattle.std.specs.Prelude.{ℕ, List, length, Option, Some, None, Bool, not, ◌&&◌, ◌^◌, nat_eq, nat_lt, if◌then◌else◌}
use Rattle.std.specs.List.{list_all}
use Rattle.std.specs.Char.{digit_value}
use Rattle.std.specs.Str.Parse.{digits_value}

-- one or more decimal digits, perhaps with zeros in front
abbrev pub are_digits : List ℕ → Bool
are_digits text = not (nat_eq (length text) 0) && list_all (λ byte. nat_lt (digit_value byte) 10) text

-- the number of 32 bits that the digits write
abbrev pub place_of : List ℕ → Option ℕ
place_of text = if are_digits text && nat_lt (digits_value 10 text) (2 ^ 32) then Some (digits_value 10 text) else None
