-- What a line does to the moment and to the files.
use Rattle.std.specs.Prelude.{ℕ, ◌≡◌, List, [], ◌∷◌, Option, Some, None, nat_lt, refl, if◌then◌else◌}
use Rattle.snap_disk.specs.Open.{ticked}
use Rattle.uci_tool.specs.Folder.{Folder}
use Rattle.uci_tool.specs.Line.{Carried}
use Rattle.uci_tool.specs.Answers.{IsAmong}
use Rattle.uci_tool.specs.Passes.{uci_passes}
use Rattle.uci_tool.specs.Alone.{words_carried}
use Rattle.script_lines.specs.declared.script_line.ScriptLine.{ScriptLine}
use Rattle.script_lines.specs.declared.script_line.ScriptLine.TheVariants as line

-- the moment behind a line, the folders that it passes through from the one before it on, and the one
-- that it leaves
pub record FilesMoved : Type 0 where
  pub now : ℕ
  pub passes : List Folder
  pub after : Folder

-- the moment and the files stay
abbrev pub stays : ℕ → Folder → FilesMoved
stays now folder = record { now = now; passes = folder ∷ []; after = folder }

-- the folder at a moment: an apply that waits is undone where its deadline has come
abbrev pub folder_at : Folder → ℕ → Folder
folder_at folder moment = record folder { files = ticked folder.files moment }

-- the moment becomes this one, unless it is before the last
abbrev pub at_moved : ℕ → Folder → ℕ → FilesMoved
at_moved now folder moment =
    if nat_lt moment now then stays now folder
    else record {
      now = moment;
      passes = folder ∷ folder_at folder moment ∷ [];
      after = folder_at folder moment;
    }

-- at the moment 7 it does not become 6
seven_to_six : (folder : Folder) → at_moved 7 folder 6 ≡ stays 7 folder
seven_to_six folder = refl

-- the folder that a command of `uci` leaves; words that request for none leave it as it was
abbrev pub folder_after : Folder → Option Carried → Folder
folder_after folder None = folder
folder_after folder (Some done) = done.after

-- a command of `uci`, with an empty input
abbrev pub uci_moved : ℕ → Folder → List (List ℕ) → FilesMoved
uci_moved now folder words = record {
  now = now;
  passes = uci_passes words folder [];
  after = folder_after folder (words_carried words folder);
}

-- a line; two kinds of them move the moment or the files
abbrev pub files_moved : ℕ → Folder → Option ScriptLine → FilesMoved
files_moved now folder (Some (line.At moment)) = at_moved now folder moment
files_moved now folder (Some (line.Uci words)) = uci_moved now folder words
files_moved now folder _ = stays now folder

-- the folder is one that is passed through, the one that is left among them
abbrev pub IsOneOf : Folder → FilesMoved → Type 0
IsOneOf folder moved = IsAmong folder (moved.after ∷ moved.passes)
