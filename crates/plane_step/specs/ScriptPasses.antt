-- The folders that the lines of a script pass through.
use Rattle.std.specs.Prelude.{◌≡◌, List, ◌∷◌, ◌++◌}
use Rattle.uci_text.specs.declared.line.Line.{Line}
use Rattle.uci_tool.specs.Folder.{Folder}
use Rattle.bus_lines.specs.World.{World}
use Rattle.plane_outside.specs.Supply.{Supply, Uses}
use Rattle.plane_step.specs.Passed.{LinePasses}
use Rattle.plane_step.specs.Moved.{Luck, Moved, Folds}

-- The folder at the start, or one that a line passes through behind others, whose sessions were made with the random
-- words of this supply.
pub data ScriptPasses (start : World) (supply : Supply) (lines : List Line) : Folder → Type 0 where
  front : ScriptPasses start supply lines start.files
  within : (done : List Line) (line : Line) (rest : List Line) → lines ≡ done ++ line ∷ rest
      → (lucks : List Luck) (so_far : Moved) → Folds start done lucks so_far
      → (after : Supply) → Uses supply so_far.words after → (folder : Folder)
      → LinePasses so_far.world line folder → ScriptPasses start supply lines folder
