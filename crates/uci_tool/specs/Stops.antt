-- What a stop within a run leaves of the files.
use Rattle.std.specs.Prelude.{ℕ, ◌≡◌, ◌⊎◌, List, [], ◌∷◌}
use Rattle.plane_disk.specs.Files.{Files}
use Rattle.plane_disk.specs.View.{View}
use Rattle.snap_disk.specs.Opened.{OpensAs}
use Rattle.snap_disk.specs.Open.{ImagesSince}
use Rattle.uci_cli.specs.declared.options.Options.{Options}
use Rattle.uci_cli.specs.declared.command.Command.{Command}
use Rattle.uci_cli.specs.Command.{reads_input}
use Rattle.uci_store.specs.declared.store.Store.{Store}
use Rattle.uci_store.specs.Store.{snap_of}
use Rattle.uci_tool.specs.Folder.{Folder, folder_of}
use Rattle.uci_tool.specs.Passes.{passes}
use Rattle.uci_tool.specs.Ends.{Stream, IsInputBy}

-- an image, opened at any moment, gives what one of these folders is to give
abbrev pub OpensAmong : List (List ℕ) → List Folder → Files → Type 0
OpensAmong names [] image = ⊥
OpensAmong names (folder ∷ folders) image = OpensAs names folder.files image ⊎ OpensAmong names folders image

-- every image since the start of the call does
abbrev pub StopsAmong : Store → View → View → List Folder → Type 0
StopsAmong store old new folders = ImagesSince (snap_of store) old new (OpensAmong old.names folders)

-- a disk is the value that it was, or its images are such
abbrev pub StaysOrStops : {D : Type 0} → Store → (D → View) → D → D → List Folder → Type 0
StaysOrStops store view old new folders = (new ≡ old) ⊎ StopsAmong store (view old) (view new) folders

-- of a command that reads an input, with the input that it read
abbrev pub CommandStops : {D : Type 0} → Options → Command → Store → Stream → (D → View) → D → D → Type 0
CommandStops options command store input view old new =
    (new ≡ old) ⊎ ((text : List ℕ) × IsInputBy (reads_input command) input text
    × StopsAmong store (view old) (view new) (passes options (folder_of store) command text))
