-- The folders that a command passes through, from the one that it finds to the one that it leaves. A command takes one
-- step, but `commit` of all packages takes one for each, and `batch` those of its lines.
use Rattle.std.specs.Prelude.{ℕ, List, [], ◌∷◌, ◌++◌, Option, Some, None, Result, Ok, Err}
use Rattle.uci_text.specs.declared.line.Line.{Line}
use Rattle.uci_text.specs.declared.text_error.TextError.{TextError}
use Rattle.uci_cli.specs.declared.options.Options.{Options}
use Rattle.uci_cli.specs.declared.command.Command.{Command}
use Rattle.uci_cli.specs.declared.command.Command.TheVariants as command
use Rattle.uci_cli.specs.Command.{command_of}
use Rattle.uci_cli.specs.Words.{asked_of}
use Rattle.uci_tool.specs.Folder.{Folder}
use Rattle.uci_tool.specs.Reading.{lines_in}
use Rattle.uci_cli.specs.declared.refusal.Refusal.{Refusal}
use Rattle.uci_tool.specs.Commit.{changed_by, commit_package, commit_done}
use Rattle.uci_tool.specs.Line.{line_done, command_done}
use Rattle.uci_tool.specs.Done.{carried}

-- the folder before each commit that is tried, and at the end
abbrev pub commit_passes : Folder → List (List ℕ) → List Folder
commit_passes folder [] = folder ∷ []
commit_passes folder (name ∷ names) =
    elim (commit_package folder name) as (λ _. List Folder) [
      | Err refusal ↦ folder ∷ []
      | Ok after ↦ folder ∷ commit_passes after names
    ]

abbrev pub one_step : Folder → Folder → List Folder
one_step folder after = folder ∷ after ∷ []

-- a step that leads to a folder, or is refused
abbrev pub step_to : Folder → Result Folder Refusal → List Folder
step_to folder expected = one_step folder (changed_by folder expected).after

abbrev pub of_commit : Folder → Option (List ℕ) → List Folder
of_commit folder None = commit_passes folder folder.names
of_commit folder (Some name) = one_step folder (commit_done folder (Some name)).after

-- a command that reads no input
abbrev pub command_passes : Options → Folder → Command → List Folder
command_passes options folder (command.Commit name) = of_commit folder name
command_passes options folder command = one_step folder (command_done options folder command).after

abbrev pub asked_passes : Options → Folder → Option Command → List Folder
asked_passes options folder None = folder ∷ []
asked_passes options folder (Some command) = command_passes options folder command

abbrev pub line_passes : Options → Folder → List (List ℕ) → List Folder
line_passes options folder words = asked_passes options folder (command_of words)

abbrev pub lines_passes : Options → Folder → List Line → List Folder
lines_passes options folder [] = folder ∷ []
lines_passes options folder (line ∷ lines) = line_passes options folder line.words
    ++ lines_passes options (line_done options folder line.words).after lines

abbrev pub batch_passes : Options → Folder → Result (List Line) TextError → List Folder
batch_passes options folder (Err error) = folder ∷ []
batch_passes options folder (Ok lines) = lines_passes options folder lines

-- any command
abbrev pub passes : Options → Folder → Command → List ℕ → List Folder
passes options folder (command.Import name) input =
    one_step folder (carried options folder (command.Import name) input).after
passes options folder command.Batch input = batch_passes options folder (lines_in input)
passes options folder command input = command_passes options folder command

abbrev pub asked_folders : Options → Folder → Option Command → List ℕ → List Folder
asked_folders options folder None input = folder ∷ []
asked_folders options folder (Some command) input = passes options folder command input

abbrev pub uci_passes : List (List ℕ) → Folder → List ℕ → List Folder
uci_passes words folder input = let asked = asked_of words in asked_folders asked.options folder asked.command input
