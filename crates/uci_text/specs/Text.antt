-- A text as lines of words (OpenWrt's UCI file syntax).
use Rattle.std.specs.Prelude.{ℕ, ◌≡◌, ◌+◌, List, [], ◌∷◌, ◌++◌}
use Rattle.uci_text.specs.declared.line.Line.{Line}
use Rattle.uci_text.specs.declared.byte_class.ByteClass.TheVariants.{NotZero}
use Rattle.uci_text.specs.ByteClass.{AllIn, newlines}
use Rattle.uci_text.specs.Gap.{IsGap}
use Rattle.uci_text.specs.Command.{SpellsCommand}

-- a command with this line's words stands in front, on this line, and the rest goes on
pub record LineThen (number : ℕ) (text : List ℕ) (line : Line) (GoesOn : ℕ → List ℕ → Type 0) : Type 0 where
  pub extent : List ℕ
  pub behind : List ℕ
  pub whole : text ≡ extent ++ behind
  pub spelled : SpellsCommand extent behind line.words
  pub place : line.line ≡ number
  pub rest : GoesOn (number + newlines extent) behind

-- the text, whose first line has this number, is commands side by side, and these are their lines
abbrev pub SpellsLines : ℕ → List ℕ → List Line → Type 0
SpellsLines number text [] = text ≡ []
SpellsLines number text (line ∷ lines) = LineThen number text line (λ next behind. SpellsLines next behind lines)

-- the text is a gap and then commands, it has no zero byte, and these are the lines of the commands
pub record Spells (text : List ℕ) (lines : List Line) : Type 0 where
  pub gap : List ℕ
  pub behind : List ℕ
  pub whole : text ≡ gap ++ behind
  pub clean : AllIn NotZero text
  pub front : IsGap gap behind
  pub commands : SpellsLines (newlines gap + 1) behind lines
