-- A command without an input.
use Rattle.std.specs.Prelude.{ℕ, ◌≡◌, List, [], Option, Some, None}
use Rattle.uci_cli.specs.declared.options.Options.{Options}
use Rattle.uci_cli.specs.declared.command.Command.{Command}
use Rattle.uci_cli.specs.Words.{asked_of}
use Rattle.uci_tool.specs.declared.report.Report.{Report}
use Rattle.uci_tool.specs.Folder.{Folder}
use Rattle.uci_tool.specs.Line.{Carried}
use Rattle.uci_tool.specs.Done.{carried}
use Rattle.uci_tool.specs.Answers.{carried_as}

abbrev pub asked_carried : Options → Folder → Option Command → Option Carried
asked_carried options folder None = None
asked_carried options folder (Some command) = Some (carried options folder command [])

-- what words come to that request for a command; its input is empty
abbrev pub words_carried : List (List ℕ) → Folder → Option Carried
words_carried words folder = let asked = asked_of words in asked_carried asked.options folder asked.command

-- the report of it, and the folder behind it; words that request for none have no report, and change nothing
abbrev pub ReportsWords : List (List ℕ) → Folder → Folder → Option Report → Type 0
ReportsWords words before after None = (words_carried words before ≡ None) × (after ≡ before)
ReportsWords words before after (Some report) = words_carried words before ≡ Some (carried_as report after)
