-- The bytes of the printed texts.
use Rattle.std.specs.Prelude.{◌≡◌, ℕ, ◌⊎◌}
use Rattle.std.specs.Int.{IsInRange}
use Rattle.net_addr.specs.Byte.{dot, slash, digit_0, digit_9, colon, letter_a, letter_f}

-- a digit, `.` or `/`, as in the text of an IPv4 prefix
abbrev pub IsV4Byte : ℕ → Type 0
IsV4Byte b = IsInRange digit_0 digit_9 b ⊎ ((b ≡ dot) ⊎ (b ≡ slash))

-- a digit, a letter `a` to `f`, `.`, `:` or `/`, as in the text of any prefix
abbrev pub IsCidrByte : ℕ → Type 0
IsCidrByte b = IsInRange digit_0 colon b
    ⊎ (IsInRange letter_a letter_f b ⊎ ((b ≡ dot) ⊎ (b ≡ slash)))
