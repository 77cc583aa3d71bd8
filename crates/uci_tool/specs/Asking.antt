-- Whether words ask for a command of `uci`.
use Rattle.std.specs.Prelude.{ℕ, List, Bool, is_some}
use Rattle.uci_cli.specs.declared.words.Asked.{Asked}
use Rattle.uci_cli.specs.Words.{asked_of}

-- the words, without `uci` itself, are in a row of its table
abbrev pub asks : List (List ℕ) → Bool
asks words = is_some (asked_of words).command
