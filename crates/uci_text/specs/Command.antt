-- Commands: words with white space between, and the gap behind them (OpenWrt's UCI file syntax).
use Rattle.std.specs.Prelude.{ℕ, ◌≡◌, List, ◌∷◌, ◌++◌, map}
use Rattle.std.specs.List.{AllByRecursion, flat_map}
use Rattle.uci_text.specs.declared.byte_class.ByteClass.TheVariants.{Space}
use Rattle.uci_text.specs.ByteClass.{AllIn, IsAtEndOr, ends_command}
use Rattle.uci_text.specs.Piece.{Piece}
use Rattle.uci_text.specs.Word.{Spaced, IsWord, IsSpaced, word_text, word_value, spaced_text}
use Rattle.uci_text.specs.Gap.{IsGap}

-- a word, others with white space before each, and white space at the end, perhaps none
pub record Command : Type 0 where
  pub first : List Piece
  pub others : List Spaced
  pub last : List ℕ

abbrev pub command_text : Command → List ℕ
command_text command = word_text command.first ++ flat_map spaced_text command.others ++ command.last

abbrev pub command_words : Command → List (List ℕ)
command_words command = word_value command.first ∷ map (λ word. word_value word.pieces) command.others

pub record IsCommand (command : Command) : Type 0 where
  pub first : IsWord command.first
  pub others : AllByRecursion IsSpaced command.others
  pub last : AllIn Space command.last

-- The extent is that of a command with these words: the command, which a newline, `;`, `#` or the end of the text ends,
-- and the gap behind it. So a comment belongs to the command before it.
pub record SpellsCommand (extent behind : List ℕ) (words : List (List ℕ)) : Type 0 where
  pub command : Command
  pub gap : List ℕ
  pub whole : extent ≡ command_text command ++ gap
  pub is : IsCommand command
  pub end : IsAtEndOr ends_command (gap ++ behind)
  pub gap_is : IsGap gap behind
  pub words_are : words ≡ command_words command
