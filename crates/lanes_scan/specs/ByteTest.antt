-- The tests of bytes of which the scans tell. What a scan answers is told of its test by the words on lists of std.
use Rattle.std.specs.Prelude.{ℕ, List, Bool, not, ◌||◌, nat_eq}
use Rattle.std.specs.Char.{is_ascii_alphanumeric, is_ascii_graphic}
use Rattle.std.specs.List.{list_any}

-- one of the stops
abbrev pub is_stop : List ℕ → ℕ → Bool
is_stop stops byte = list_any (λ stop. nat_eq stop byte) stops

-- none of the stops
abbrev pub is_plain : List ℕ → ℕ → Bool
is_plain stops byte = not (is_stop stops byte)

-- a zero byte
abbrev pub is_nul : ℕ → Bool
is_nul byte = nat_eq byte 0

-- a letter, a digit or `_`
abbrev pub is_name_byte : ℕ → Bool
is_name_byte byte = is_ascii_alphanumeric byte || nat_eq byte 95

-- 33 to 126: a byte of ASCII that is seen in print
abbrev pub is_printable_byte : ℕ → Bool
is_printable_byte byte = is_ascii_graphic byte
