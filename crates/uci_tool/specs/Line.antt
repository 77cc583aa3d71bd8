-- Commands that read no input, and the lines of `batch`.
use Rattle.std.specs.Prelude.{ℕ, List, [], ◌∷◌, ◌++◌, Option, Some, None, Result, Ok, Err}
use Rattle.uci_text.specs.declared.line.Line.{Line}
use Rattle.uci_cli.specs.declared.options.Options.{Options}
use Rattle.uci_cli.specs.declared.command.Command.{Command}
use Rattle.uci_cli.specs.declared.command.Command.TheVariants as command
use Rattle.uci_cli.specs.Command.{command_of}
use Rattle.uci_cli.specs.declared.refusal.Refusal.{Refusal}
use Rattle.uci_cli.specs.declared.refusal.Refusal.TheVariants.{Invalid}
use Rattle.uci_cli.specs.Refusal.{text_of}
use Rattle.uci_tool.specs.Folder.{Folder}
use Rattle.uci_tool.specs.declared.texts.Printed.{Printed}
use Rattle.uci_tool.specs.Texts.{show_done, get_word, changes_of, export_package, alone, of_named}
use Rattle.uci_tool.specs.Staging.{Effect, stage_word, add_done, revert_word}
use Rattle.uci_tool.specs.Commit.{Changed, commit_done}

-- what was printed, what is told on the error output, the first refusal, and the folder behind it
pub record Carried : Type 0 where
  pub output : List ℕ
  pub told : List ℕ
  pub refusal : Option Refusal
  pub after : Folder

abbrev pub told_of : Option Refusal → List ℕ
told_of None = []
told_of (Some refusal) = text_of refusal

-- a command that is refused, and changes nothing
abbrev pub refused : Folder → Refusal → Carried
refused folder refusal = record { output = []; told = text_of refusal; refusal = Some refusal; after = folder }

-- one that printed
abbrev pub of_printed : Folder → Printed → Carried
of_printed folder done = record
    { output = done.output; told = told_of done.refusal; refusal = done.refusal; after = folder }

-- one that changed the folder
abbrev pub of_changed : Changed → Carried
of_changed done = record { output = []; told = told_of done.refusal; refusal = done.refusal; after = done.after }

-- one that changes the folder as a whole or not at all
abbrev pub of_folder : Folder → Result Folder Refusal → Carried
of_folder folder (Err refusal) = refused folder refusal
of_folder folder (Ok after) = record { output = []; told = []; refusal = None; after = after }

abbrev pub of_effect : Folder → Result Effect Refusal → Carried
of_effect folder (Err refusal) = refused folder refusal
of_effect folder (Ok done) = record { output = done.output; told = []; refusal = None; after = done.after }

-- a command that reads no input; `import` and `batch` are none within a line
abbrev pub command_done : Options → Folder → Command → Carried
command_done options folder (command.Show path) = of_printed folder (show_done options folder path)
command_done options folder (command.Get path) = of_printed folder (alone (get_word options folder path))
command_done options folder (command.Stage verb word) = of_folder folder (stage_word verb folder word)
command_done options folder (command.Add name kind) = of_effect folder (add_done folder name kind)
command_done options folder (command.Changes name) = of_printed folder (of_named (changes_of folder) folder.names name)
command_done options folder (command.Revert path) = of_folder folder (revert_word folder path)
command_done options folder (command.Commit name) = of_changed (commit_done folder name)
command_done options folder (command.Export name) =
    of_printed folder (of_named (export_package options folder) folder.names name)
command_done options folder (command.Import name) = refused folder Invalid
command_done options folder command.Batch = refused folder Invalid

-- a line of `batch`: its words are a command without options
abbrev pub asked_done : Options → Folder → Option Command → Carried
asked_done options folder None = refused folder Invalid
asked_done options folder (Some command) = command_done options folder command

abbrev pub line_done : Options → Folder → List (List ℕ) → Carried
line_done options folder words = asked_done options folder (command_of words)

abbrev pub first_refusal : Option Refusal → Option Refusal → Option Refusal
first_refusal None other = other
first_refusal (Some refusal) other = Some refusal

-- a line, and those behind it
abbrev pub then_done : Carried → Carried → Carried
then_done one rest = record {
  output = one.output ++ rest.output;
  told = one.told ++ rest.told;
  refusal = first_refusal one.refusal rest.refusal;
  after = rest.after;
}

-- the lines one after another, also behind one that is refused
abbrev pub lines_done : Options → Folder → List Line → Carried
lines_done options folder [] = record { output = []; told = []; refusal = None; after = folder }
lines_done options folder (line ∷ lines) = let one = line_done options folder line.words in
    then_done one (lines_done options one.after lines)
