-- Words: pieces side by side (OpenWrt's UCI file syntax).
use Rattle.std.specs.Prelude.{ℕ, ◌≡◌, ◌<◌, List, ◌++◌, length}
use Rattle.std.specs.List.{AllByRecursion, flat_map}
use Rattle.uci_text.specs.declared.byte_class.ByteClass.TheVariants.{Space}
use Rattle.uci_text.specs.ByteClass.{AllIn}
use Rattle.uci_text.specs.Piece.{Piece, piece_text, piece_value, IsPiece}

abbrev pub word_text : List Piece → List ℕ
word_text pieces = flat_map piece_text pieces

abbrev pub word_value : List Piece → List ℕ
word_value pieces = flat_map piece_value pieces

-- one or more pieces
pub record IsWord (pieces : List Piece) : Type 0 where
  pub some : 0 < length pieces
  pub each : AllByRecursion IsPiece pieces

-- a word with the white space before it
pub record Spaced : Type 0 where
  pub spaces : List ℕ
  pub pieces : List Piece

abbrev pub spaced_text : Spaced → List ℕ
spaced_text word = word.spaces ++ word_text word.pieces

-- the white space is one byte at least
pub record IsSpaced (word : Spaced) : Type 0 where
  pub apart : 0 < length word.spaces
  pub spaces : AllIn Space word.spaces
  pub is : IsWord word.pieces

-- a text is a word with this value
pub record SpellsWord (text value : List ℕ) : Type 0 where
  pub pieces : List Piece
  pub whole : text ≡ word_text pieces
  pub is : IsWord pieces
  pub value_is : value ≡ word_value pieces
