-- The pieces that words are made of: how each is written, and the bytes that it gives (OpenWrt's UCI file syntax).
use Rattle.std.specs.Prelude.{ℕ, ◌<◌, List, [], ◌∷◌, ◌++◌, length, nat_eq, if◌then◌else◌}
use Rattle.std.specs.List.{AllByRecursion, flat_map}
use Rattle.uci_text.specs.declared.byte_class.ByteClass.TheVariants.{Plain, Quotable, DoubleQuotable}
use Rattle.uci_text.specs.Byte.{newline, double_quote, single_quote, backslash}
use Rattle.uci_text.specs.ByteClass.{AllIn}

-- what a backslash with this byte gives: the byte, and nothing where it is a newline
abbrev pub escaped_value : ℕ → List ℕ
escaped_value byte = if nat_eq byte newline then [] else byte ∷ []

-- a part of what stands between double quotes: bytes that stand for themselves, or a backslash with a byte
pub data Inner : Type 0 where
  kept : List ℕ → Inner
  pair : ℕ → Inner

abbrev pub inner_text : Inner → List ℕ
inner_text (kept bytes) = bytes
inner_text (pair byte) = backslash ∷ byte ∷ []

abbrev pub inner_value : Inner → List ℕ
inner_value (kept bytes) = bytes
inner_value (pair byte) = escaped_value byte

-- bytes that stand for themselves are any but " and \
abbrev pub IsInner : Inner → Type 0
IsInner (kept bytes) = AllIn DoubleQuotable bytes
IsInner (pair byte) = Unit {0}

-- a run of plain bytes, a backslash with a byte, bytes between ' and ', parts between " and "
pub data Piece : Type 0 where
  plain : List ℕ → Piece
  escaped : ℕ → Piece
  single : List ℕ → Piece
  double : List Inner → Piece

abbrev pub piece_text : Piece → List ℕ
piece_text (plain run) = run
piece_text (escaped byte) = backslash ∷ byte ∷ []
piece_text (single bytes) = single_quote ∷ bytes ++ single_quote ∷ []
piece_text (double inner) = double_quote ∷ flat_map inner_text inner ++ double_quote ∷ []

abbrev pub piece_value : Piece → List ℕ
piece_value (plain run) = run
piece_value (escaped byte) = escaped_value byte
piece_value (single bytes) = bytes
piece_value (double inner) = flat_map inner_value inner

-- a run has at least one byte, and between single quotes stands no single quote
abbrev pub IsPiece : Piece → Type 0
IsPiece (plain run) = (0 < length run) × AllIn Plain run
IsPiece (escaped byte) = Unit {0}
IsPiece (single bytes) = AllIn Quotable bytes
IsPiece (double inner) = AllByRecursion IsInner inner
