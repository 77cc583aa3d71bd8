-- The bytes that mean something in UCI text and in paths, by name (ASCII).
use Rattle.std.specs.Prelude.{ℕ}

abbrev pub nul : ℕ
nul = 0

abbrev pub tab : ℕ
tab = 9

abbrev pub newline : ℕ
newline = 10

abbrev pub vertical_tab : ℕ
vertical_tab = 11

abbrev pub form_feed : ℕ
form_feed = 12

abbrev pub carriage_return : ℕ
carriage_return = 13

abbrev pub space : ℕ
space = 32

-- "
abbrev pub double_quote : ℕ
double_quote = 34

-- #
abbrev pub number_sign : ℕ
number_sign = 35

-- '
abbrev pub single_quote : ℕ
single_quote = 39

-- -
abbrev pub dash : ℕ
dash = 45

-- .
abbrev pub dot : ℕ
dot = 46

-- ;
abbrev pub semicolon : ℕ
semicolon = 59

-- @
abbrev pub at_sign : ℕ
at_sign = 64

-- [
abbrev pub opening_bracket : ℕ
opening_bracket = 91

-- \
abbrev pub backslash : ℕ
backslash = 92

-- ]
abbrev pub closing_bracket : ℕ
closing_bracket = 93

-- _
abbrev pub underscore : ℕ
underscore = 95
