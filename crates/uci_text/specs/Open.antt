-- Commands that do not end: a quote that is not closed, or a last backslash; and the extents of all commands.
use Rattle.std.specs.Prelude.{ℕ, ◌≡◌, List, [], ◌∷◌, ◌++◌}
use Rattle.std.specs.List.{AllByRecursion, flat_map, concat}
use Rattle.uci_text.specs.declared.byte_class.ByteClass.TheVariants.{Space, Quotable}
use Rattle.uci_text.specs.Byte.{double_quote, single_quote, backslash}
use Rattle.uci_text.specs.ByteClass.{AllIn}
use Rattle.uci_text.specs.Piece.{IsPiece, Inner, IsInner, inner_text}
use Rattle.uci_text.specs.Word.{Spaced, spaced_text}
use Rattle.uci_text.specs.Gap.{IsGap}
use Rattle.uci_text.specs.Command.{SpellsCommand}

-- A piece that reaches to the end of the text and lacks its end: bytes behind ', parts behind ", such parts and a
-- backslash behind ", or a backslash outside quotes.
pub data Open : Type 0 where
  open_single : List ℕ → Open
  open_double : List Inner → Open
  open_pair : List Inner → Open
  last_backslash : Open

abbrev pub open_text : Open → List ℕ
open_text (open_single bytes) = single_quote ∷ bytes
open_text (open_double inner) = double_quote ∷ flat_map inner_text inner
open_text (open_pair inner) = double_quote ∷ flat_map inner_text inner ++ backslash ∷ []
open_text last_backslash = backslash ∷ []

abbrev pub IsOpen : Open → Type 0
IsOpen (open_single bytes) = AllIn Quotable bytes
IsOpen (open_double inner) = AllByRecursion IsInner inner
IsOpen (open_pair inner) = AllByRecursion IsInner inner
IsOpen last_backslash = Unit {0}

-- white space and pieces, perhaps none
pub record IsLoose (word : Spaced) : Type 0 where
  pub spaces : AllIn Space word.spaces
  pub pieces : AllByRecursion IsPiece word.pieces

-- the extent is that of a command that does not end: white space and pieces, and then the open piece
pub record IsOpenCommand (extent before : List ℕ) (open' : Open) : Type 0 where
  pub front : List Spaced
  pub whole : extent ≡ before ++ open_text open'
  pub before_is : before ≡ flat_map spaced_text front
  pub loose : AllByRecursion IsLoose front
  pub open_is : IsOpen open'

-- the extent is that of a command, where this is behind it
pub data IsExtent (extent behind : List ℕ) : Type 0 where
  ended : (words : List (List ℕ)) → SpellsCommand extent behind words → IsExtent extent behind
  unended : (before : List ℕ) (open' : Open) → IsOpenCommand extent before open' → behind ≡ [] → IsExtent extent behind

-- the extents of commands side by side, where this is behind them
abbrev pub AreExtents : List (List ℕ) → List ℕ → Type 0
AreExtents [] behind = Unit {0}
AreExtents (extent ∷ extents) behind = IsExtent extent (concat extents ++ behind) × AreExtents extents behind

-- the extents of the first commands of a text, where this is behind them: the gap in front, which is an empty command,
-- and then commands
abbrev pub AreFirst : List (List ℕ) → List ℕ → Type 0
AreFirst [] behind = Unit {0}
AreFirst (gap ∷ extents) behind = IsGap gap (concat extents ++ behind) × AreExtents extents behind
