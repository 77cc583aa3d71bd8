-- What the readers of pieces, words, gaps and commands find in front of bytes.
use Rattle.std.specs.Prelude.{ℕ, ◌≡◌, ◌+◌, List, [], ◌∷◌, ◌++◌, Bool, false, length}
use Rattle.std.specs.List.{AllByRecursion}
use Rattle.uci_text.specs.declared.stop.Stop.{Stop}
use Rattle.uci_text.specs.declared.stop.Stop.TheVariants.{Quote, Backslash}
use Rattle.uci_text.specs.declared.line.Line.{Line}
use Rattle.uci_text.specs.declared.text_error.TextError.{TextError}
use Rattle.uci_text.specs.declared.byte_class.ByteClass.TheVariants.{NotZero}
use Rattle.uci_text.specs.ByteClass.{AllIn, IsAtEndOr, ends_word, ends_command, newlines}
use Rattle.uci_text.specs.Piece.{Piece, IsPiece, piece_text, piece_value}
use Rattle.uci_text.specs.Word.{IsWord, word_text, word_value}
use Rattle.uci_text.specs.Gap.{IsGap}
use Rattle.uci_text.specs.Command.{Command, IsCommand, SpellsCommand, command_text, command_words}
use Rattle.uci_text.specs.Open.{Open, open_single, open_double, open_pair, last_backslash, open_text, IsOpen}
use Rattle.uci_text.specs.Open.{IsOpenCommand, IsExtent}
use Rattle.uci_text.specs.FirstFault.{HasFault}

-- there is a byte, and the test is false of the first one
abbrev pub BeginsOutside : (ℕ → Bool) → List ℕ → Type 0
BeginsOutside test [] = ⊥
BeginsOutside test (byte ∷ bytes) = test byte ≡ false

-- how the readers tell of an open piece: by how many bytes it has
abbrev pub stop_of : Open → Stop
stop_of (open_single bytes) = Quote (length (open_text (open_single bytes)))
stop_of (open_double inner) = Quote (length (open_text (open_double inner)))
stop_of (open_pair inner) = Quote (length (open_text (open_pair inner)))
stop_of last_backslash = Backslash

-- the bytes begin with a piece, behind which is the rest, and its value was appended
pub record TakesPiece (bytes old new rest : List ℕ) : Type 0 where
  pub piece : Piece
  pub whole : bytes ≡ piece_text piece ++ rest
  pub is : IsPiece piece
  pub value : new ≡ old ++ piece_value piece

-- the bytes are an open piece
pub record IsOpenPiece (bytes : List ℕ) (stop : Stop) : Type 0 where
  pub open_piece : Open
  pub whole : bytes ≡ open_text open_piece
  pub is : IsOpen open_piece
  pub stop_is : stop ≡ stop_of open_piece

-- the bytes begin with a word of this value, and the rest behind it does not go on with it
pub record TakesWord (bytes value rest : List ℕ) : Type 0 where
  pub pieces : List Piece
  pub whole : bytes ≡ word_text pieces ++ rest
  pub is : IsWord pieces
  pub value_is : value ≡ word_value pieces
  pub end : IsAtEndOr ends_word rest

-- the bytes are pieces and an open piece
pub record IsOpenWord (bytes : List ℕ) (stop : Stop) : Type 0 where
  pub pieces : List Piece
  pub last : List ℕ
  pub whole : bytes ≡ word_text pieces ++ last
  pub each : AllByRecursion IsPiece pieces
  pub last_is : IsOpenPiece last stop

-- the bytes begin with a command of these words, which ends before the rest
pub record TakesCommand (bytes : List ℕ) (words : List (List ℕ)) (rest : List ℕ) : Type 0 where
  pub command : Command
  pub whole : bytes ≡ command_text command ++ rest
  pub is : IsCommand command
  pub end : IsAtEndOr ends_command rest
  pub words_are : words ≡ command_words command

-- the bytes are a command that does not end
pub record HasNoEnd (bytes : List ℕ) (stop : Stop) : Type 0 where
  pub before : List ℕ
  pub open_piece : Open
  pub is : IsOpenCommand bytes before open_piece
  pub stop_is : stop ≡ stop_of open_piece

-- the bytes begin with a gap, which ends before the rest
pub record TakesGap (bytes rest : List ℕ) : Type 0 where
  pub gap : List ℕ
  pub whole : bytes ≡ gap ++ rest
  pub is : IsGap gap rest

-- the bytes begin with the extent of a command without a zero byte, whose line is this one, and on line next is the
-- rest
pub record ReadsExtent (number : ℕ) (bytes : List ℕ) (line : Line) (behind : List ℕ) (next : ℕ) : Type 0 where
  pub extent : List ℕ
  pub whole : bytes ≡ extent ++ behind
  pub spelled : SpellsCommand extent behind line.words
  pub clean : AllIn NotZero extent
  pub place : line.line ≡ number
  pub next_is : next ≡ number + newlines extent

-- the bytes begin with the extent of a command that has this fault
pub record RefusesExtent (number : ℕ) (bytes : List ℕ) (error : TextError) : Type 0 where
  pub extent : List ℕ
  pub behind : List ℕ
  pub whole : bytes ≡ extent ++ behind
  pub is : IsExtent extent behind
  pub fault : HasFault number extent error

-- the text begins with a gap without a zero byte, and on this line is the rest
pub record ReadsGap (text behind : List ℕ) (number : ℕ) : Type 0 where
  pub gap : List ℕ
  pub whole : text ≡ gap ++ behind
  pub is : IsGap gap behind
  pub clean : AllIn NotZero gap
  pub number_is : number ≡ newlines gap + 1

-- the text begins with a gap that has this fault
pub record RefusesGap (text : List ℕ) (error : TextError) : Type 0 where
  pub gap : List ℕ
  pub behind : List ℕ
  pub whole : text ≡ gap ++ behind
  pub is : IsGap gap behind
  pub fault : HasFault 1 gap error
