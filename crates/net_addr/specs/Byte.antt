-- Bytes by their ASCII characters.
use Rattle.std.specs.Prelude.{ℕ}

abbrev pub dot : ℕ
dot = 46

abbrev pub slash : ℕ
slash = 47

abbrev pub digit_0 : ℕ
digit_0 = 48

abbrev pub digit_9 : ℕ
digit_9 = 57

-- which follows `9`
abbrev pub colon : ℕ
colon = 58

abbrev pub letter_a : ℕ
letter_a = 97

abbrev pub letter_f : ℕ
letter_f = 102
