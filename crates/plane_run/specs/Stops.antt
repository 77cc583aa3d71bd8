-- What a stop within a run leaves of the files, whenever it comes.
use Rattle.std.specs.Prelude.{ℕ, ◌≡◌, ◌⊎◌, List, Some, Option}
use Rattle.plane_disk.specs.Files.{Files}
use Rattle.plane_disk.specs.View.{View}
use Rattle.snap_disk.specs.Images.{LeavesOnly}
use Rattle.snap_disk.specs.Opening.{FromImage}
use Rattle.uci_text.specs.declared.line.Line.{Line}
use Rattle.uci_store.specs.declared.store.Store.{Store}
use Rattle.uci_tool.specs.Ends.{Stream}
use Rattle.uci_tree.specs.declared.package.Package.{Package}
use Rattle.uci_tool.specs.Folder.{Folder, folder_of}
use Rattle.uci_tool.specs.Folders.{IsFound, StopsAsFound}
use Rattle.ubus_acl.specs.declared.acl.Acl.{Acl}
use Rattle.rpc_objects.specs.Passed.{OpensIn, StopsIn}
use Rattle.bus_lines.specs.World.{World}
use Rattle.plane_outside.specs.Supply.{Supply}
use Rattle.plane_step.specs.ScriptPasses.{ScriptPasses}
use Rattle.plane_run.specs.declared.script.Script.TheVariants.{Lines}
use Rattle.plane_run.specs.Opening.{First, HasRows, start_world}
use Rattle.plane_run.specs.Script.{HasRead}

-- Each image of the files since the start gives, from the moment of the run on, what an image at the
-- start gives, or it opens at any moment as a folder that these lines pass through, from this world on.
abbrev pub ImagesOf : First → View → World → List Line → Type 0
ImagesOf first files_now start lines = (read : Files) → first.files.seen ≡ Some read
    → LeavesOnly first.files files_now (λ image. FromImage first.now first.files image
    ⊎ OpensIn first.files.names (ScriptPasses start first.words lines) image)

-- The folder was opened, its rows were loaded and the script read, and the images are those of its lines. The plane
-- settled on the rows with some luck.
pub record StopsOver (first : First) (input : Stream) (files_now : View) : Type 0 where
  pub folder : Folder
  pub found : IsFound first.files first.staged first.now folder
  pub network : Package
  pub wireless : Package
  pub rows : HasRows folder network wireless
  pub failed_after : Option ℕ
  pub lines : List Line
  pub read : HasRead input (Lines lines)
  pub images : ImagesOf first files_now
      (start_world first.now first.acl folder network wireless failed_after) lines

abbrev pub RunStops : First → Stream → View → Type 0
RunStops first input files_now =
    StopsAsFound first.now first.files files_now ⊎ StopsOver first input files_now

-- Of a script from this world on: the disk is the value that it was, or the images are those of folders of the script.
abbrev pub ScriptStops : {D : Type 0} → World → Supply → Store → Stream → (D → View) → D → D → Type 0
ScriptStops start words store input view old new = (new ≡ old) ⊎ ((lines : List Line)
    × HasRead input (Lines lines)
    × StopsIn store (view old) (view new) (ScriptPasses start words lines))

-- Of a run over an open store: the disk is the value that it was, or rows were loaded, and the images are those of
-- folders of the script from the world behind the opening on.
abbrev pub StoreStops : {D : Type 0} → ℕ → Acl → Supply → Store → Stream → (D → View) → D → D → Type 0
StoreStops now acl words store input view old new = (new ≡ old)
    ⊎ ((network : Package) × (wireless : Package) × HasRows (folder_of store) network wireless
    × (failed_after : Option ℕ)
    × ScriptStops (start_world now acl (folder_of store) network wireless failed_after) words
    store input view old new)
