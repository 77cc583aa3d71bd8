-- The first fault of a text.
use Rattle.std.specs.Prelude.{ℕ, ◌≡◌, ◌+◌, List, [], ◌∷◌, ◌++◌}
use Rattle.std.specs.List.{AllByRecursion, concat}
use Rattle.uci_text.specs.declared.text_error.TextError.{TextError}
use Rattle.uci_text.specs.declared.text_error.TextError.TheVariants.{BadWord, OpenQuote}
use Rattle.uci_text.specs.declared.byte_class.ByteClass.TheVariants.{NotZero}
use Rattle.uci_text.specs.Byte.{nul}
use Rattle.uci_text.specs.ByteClass.{AllIn, newlines}
use Rattle.uci_text.specs.Open.{Open, open_single, open_double, open_pair, last_backslash, IsOpenCommand, AreFirst}

-- what is told of an open piece on this line
abbrev pub open_error : Open → ℕ → TextError
open_error (open_single bytes) line = OpenQuote line
open_error (open_double inner) line = OpenQuote line
open_error (open_pair inner) line = OpenQuote line
open_error last_backslash line = BadWord line

-- The extent of a command, whose first line has this number, has this fault: its first zero byte, and where it has
-- none, the piece that lacks its end.
pub data HasFault (number : ℕ) (extent : List ℕ) (error : TextError) : Type 0 where
  zero_byte : (before behind : List ℕ) → extent ≡ before ++ nul ∷ behind → AllIn NotZero before → error
      ≡ BadWord (number + newlines before) → HasFault number extent error
  no_end : (before : List ℕ) (open' : Open) → AllIn NotZero extent → IsOpenCommand extent before open' → error
      ≡ open_error open' (number + newlines before) → HasFault number extent error

-- the extent has no such fault, on whatever line it begins
abbrev pub IsFreeOf : (ℕ → List ℕ → TextError → Type 0) → List ℕ → Type 0
IsFreeOf Has extent = (number : ℕ) (error : TextError) → Has number extent error → ⊥

-- of the commands of the text that have such a fault, the first one has this fault
pub record IsFirstOf (Has : ℕ → List ℕ → TextError → Type 0) (text : List ℕ) (error : TextError) : Type 0 where
  pub good : List (List ℕ)
  pub bad : List ℕ
  pub behind : List ℕ
  pub whole : text ≡ concat good ++ bad ++ behind
  pub extents : AreFirst (good ++ bad ∷ []) behind
  pub free : AllByRecursion (λ extent. IsFreeOf Has extent) good
  pub fault : Has (newlines (concat good) + 1) bad error

-- the first fault of the text
abbrev pub IsFirstFault : List ℕ → TextError → Type 0
IsFirstFault text error = IsFirstOf HasFault text error
