-- The script of a run: its text, and what it comes to.
use Rattle.std.specs.Prelude.{ℕ, ◌≡◌, ◌≤◌, ◌⊎◌, List, [], Some, length, false}
use Rattle.plane_io.specs.Source.{IsAllThatWasLeft}
use Rattle.uci_text.specs.declared.line.Line.{Line}
use Rattle.uci_text.specs.declared.text_error.TextError.{TextError}
use Rattle.uci_text.specs.Text.{Spells}
use Rattle.uci_text.specs.FirstFault.{IsFirstFault}
use Rattle.uci_tree.specs.declared.fault.Fault.{Fault}
use Rattle.uci_tree.specs.Fault.{fault_of_text}
use Rattle.uci_tool.specs.Ends.{Stream}
use Rattle.script_lines.specs.declared.line_error.LineError.TheVariants as error
use Rattle.script_lines.specs.ErrorLine.{error_line}
use Rattle.bus_lines.specs.World.{World}
use Rattle.plane_step.specs.Plain.{ArePlain}
use Rattle.plane_step.specs.Moved.{Luck, Moved, Folds}
use Rattle.plane_run.specs.declared.script.Script.{Script}
use Rattle.plane_run.specs.declared.script.Script.TheVariants.{Lines, Bad}
use Rattle.plane_run.specs.declared.script.TheConstants.{SCRIPT_LIMIT}

-- the input was read to its end, and this is its text, which is within the limit
pub record IsRead (input : Stream) (text : List ℕ) : Type 0 where
  pub all : IsAllThatWasLeft input.old input.new text
  pub within : length text ≤ SCRIPT_LIMIT

-- the text has no lines, and its first fault is on this line
pub record IsBad (text : List ℕ) (line : ℕ) : Type 0 where
  pub error : TextError
  pub first : IsFirstFault text error
  pub fault : Fault
  pub is : fault_of_text error ≡ Some fault
  pub place : fault.line ≡ line

-- what a text says as a script
abbrev pub Says : List ℕ → Script → Type 0
Says text (Lines lines) = Spells text lines
Says text (Bad line) = IsBad text line

-- a script was read
pub record HasRead (input : Stream) (script : Script) : Type 0 where
  pub text : List ℕ
  pub read : IsRead input text
  pub says : Says text script

-- Something stays as it was, or a script was read, and it stays where no caller asks a line.
abbrev pub StaysUnlessCalled : Stream → Type 0 → Type 0
StaysUnlessCalled input Stays =
    Stays ⊎ ((lines : List Line) × HasRead input (Lines lines) × (ArePlain lines → Stays))

-- the one answer to a script that has no lines
abbrev pub bad_answer : ℕ → List ℕ
bad_answer line = error_line (error.BadLine line)

abbrev pub answered : World → ℕ → Moved
answered start line = record {
  world = start;
  effects = record { asked = []; calls = []; text = bad_answer line };
  is_ok = false;
  words = [];
}

-- what a script comes to on the world behind the opening, each of its lines with its luck
pub data Gives (start : World) : Script → List Luck → Moved → Type 0 where
  carried_out : (lines : List Line) (lucks : List Luck) (end : Moved)
      → Folds start lines lucks end → Gives start (Lines lines) lucks end
  refused : (line : ℕ) → Gives start (Bad line) [] (answered start line)
