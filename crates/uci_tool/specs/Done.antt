-- OpenWrt's `uci` command, whole: what it prints, what it tells on the error output, its status and the number of its
-- refusal, and the folder behind it. One row a command.
use Rattle.std.specs.Prelude.{ℕ, List, [], Bool, length, ◌&&◌, Option, Some, None, Result, Ok, Err, nat_lt}
use Rattle.std.specs.Prelude.{if◌then◌else◌}
use Rattle.plane_io.specs.declared.input.TheConstants.{INPUT_LIMIT}
use Rattle.uci_text.specs.declared.line.Line.{Line}
use Rattle.uci_text.specs.declared.text_error.TextError.{TextError}
use Rattle.uci_tree.specs.Fault.{fault_of_text}
use Rattle.uci_cli.specs.declared.options.Options.{Options}
use Rattle.uci_cli.specs.declared.command.Command.{Command}
use Rattle.uci_cli.specs.declared.command.Command.TheVariants as command
use Rattle.uci_cli.specs.Command.{reads_input}
use Rattle.uci_cli.specs.Words.{asked_of}
use Rattle.uci_cli.specs.declared.refusal.Refusal.{Refusal}
use Rattle.uci_cli.specs.declared.refusal.TheConstants as texts
use Rattle.uci_cli.specs.Refusal.{number_of}
use Rattle.uci_tool.specs.Folder.{Folder}
use Rattle.uci_tool.specs.Reading.{lines_in}
use Rattle.uci_tool.specs.Seen.{refusal_of}
use Rattle.uci_tool.specs.Import.{import_done}
use Rattle.uci_tool.specs.Line.{Carried, refused, of_folder, command_done, lines_done}

pub record UciDone : Type 0 where
  pub output : List ℕ
  pub told : List ℕ
  pub status : ℕ
  pub refusal : ℕ
  pub after : Folder

-- the lines of `batch`; where its input has no lines, none is carried out
abbrev pub batch_of : Options → Folder → Result (List Line) TextError → Carried
batch_of options folder (Err error) = refused folder (refusal_of (fault_of_text error))
batch_of options folder (Ok lines) = lines_done options folder lines

-- any command
abbrev pub carried : Options → Folder → Command → List ℕ → Carried
carried options folder (command.Import name) input = of_folder folder (import_done options folder name input)
carried options folder command.Batch input = batch_of options folder (lines_in input)
carried options folder command input = command_done options folder command

-- with `-q` nothing is told
abbrev pub told_by : Options → List ℕ → List ℕ
told_by options text = if options.quiet then [] else text

abbrev pub status_of : Option Refusal → ℕ
status_of None = 0
status_of (Some refusal) = 1

abbrev pub refusal_number : Option Refusal → ℕ
refusal_number None = 0
refusal_number (Some refusal) = number_of refusal

-- how a command ends that was carried out
abbrev pub ended : Options → Carried → UciDone
ended options done = record {
  output = done.output;
  told = told_by options done.told;
  status = status_of done.refusal;
  refusal = refusal_number done.refusal;
  after = done.after;
}

-- how one ends that was not, for its words or for its input
abbrev pub not_carried : Options → Folder → List ℕ → ℕ → UciDone
not_carried options folder text status =
    record { output = []; told = told_by options text; status = status; refusal = 0; after = folder }

-- the input is longer than it may be
abbrev pub is_too_long : Command → List ℕ → Bool
is_too_long command input = reads_input command && nat_lt INPUT_LIMIT (length input)

abbrev pub asked_uci : Options → Folder → Option Command → List ℕ → UciDone
asked_uci options folder None input = not_carried options folder texts.USAGE.now 2
asked_uci options folder (Some command) input =
    if is_too_long command input
    then not_carried options folder texts.TOO_LARGE.now 10
    else ended options (carried options folder command input)

-- the words are without `uci` itself
abbrev pub uci_done : List (List ℕ) → Folder → List ℕ → UciDone
uci_done words folder input = let asked = asked_of words in asked_uci asked.options folder asked.command input
