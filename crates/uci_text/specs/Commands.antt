-- A text as commands, and its first fault of all (OpenWrt's UCI file syntax).
use Rattle.std.specs.Prelude.{ℕ, List, []}
use Rattle.std.specs.List.{AllZip}
use Rattle.uci_text.specs.declared.line.Line.{Line}
use Rattle.uci_text.specs.declared.cmd.Cmd.{Cmd}
use Rattle.uci_text.specs.declared.text_error.TextError.{TextError}
use Rattle.uci_text.specs.declared.byte_class.ByteClass.TheVariants.{NotZero}
use Rattle.uci_text.specs.ByteClass.{AllIn}
use Rattle.uci_text.specs.Command.{SpellsCommand}
use Rattle.uci_text.specs.Text.{Spells}
use Rattle.uci_text.specs.FirstFault.{HasFault, IsFirstOf}
use Rattle.uci_text.specs.Table.{IsCmd, HasWordsFault}

-- the words of the line are this command
abbrev pub IsCmdOf : Line → Cmd → Type 0
IsCmdOf line cmd = IsCmd line.line line.words cmd

-- the text has lines, and these are their commands, one for each
pub record SpellsCommands (text : List ℕ) (commands : List Cmd) : Type 0 where
  pub lines : List Line
  pub spelled : Spells text lines
  pub each : AllZip IsCmdOf lines commands

-- The extent of a command, whose first line has this number, has this fault: that of its bytes, and where they have
-- none, that of its words.
pub data HasCommandFault (number : ℕ) (extent : List ℕ) (error : TextError) : Type 0 where
  of_bytes : HasFault number extent error → HasCommandFault number extent error
  of_words : (words : List (List ℕ)) → SpellsCommand extent [] words → AllIn NotZero extent
      → HasWordsFault number words error → HasCommandFault number extent error

-- the first fault of the text, of bytes or of words
abbrev pub IsFirstCommandFault : List ℕ → TextError → Type 0
IsFirstCommandFault text error = IsFirstOf HasCommandFault text error
