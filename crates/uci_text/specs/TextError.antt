-- Numbers of errors.
use Rattle.std.specs.Prelude.{ℕ}
use Rattle.uci_text.specs.declared.text_error.TextError.{TextError}
use Rattle.uci_text.specs.declared.text_error.TextError.TheVariants.{BadWord, OpenQuote, UnknownCommand, ArgumentCount}
use Rattle.uci_text.specs.declared.text_error.TextError.TheVariants.{BadName, Memory}

-- 10 for a bad word, 11 for an open quote, 12 for an unknown command, 13 for a wrong number of arguments, 14 for a bad
-- name, 8 for memory
abbrev pub number_of : TextError → ℕ
number_of (BadWord line) = 10
number_of (OpenQuote line) = 11
number_of (UnknownCommand line) = 12
number_of (ArgumentCount line) = 13
number_of (BadName line) = 14
number_of Memory = 8
