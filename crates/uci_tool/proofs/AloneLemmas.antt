-- A command without an input.
use Rattle.std.proofs.Common.{ℕ, ◌≡◌, inl, List, Option, Some, None, refl, subst, sym}
use Rattle.uci_cli.specs.declared.options.Options.{Options}
use Rattle.uci_cli.specs.declared.command.Command.{Command}
use Rattle.uci_cli.specs.declared.command.Command.TheVariants as command
use Rattle.uci_cli.specs.declared.words.Asked.{Asked}
use Rattle.uci_cli.specs.Words.{asked_of}
use Rattle.plane_disk.specs.View.{View}
use Rattle.uci_store.specs.declared.store.Store.{Store}
use Rattle.uci_tool.specs.Folder.{Folder, folder_of}
use Rattle.uci_tool.specs.Answers.{IsAmong}
use Rattle.uci_tool.specs.Passes.{passes, asked_folders, uci_passes}
use Rattle.uci_tool.specs.Reading.{lines_in}
use Rattle.uci_tool.specs.Stops.{StaysOrStops}
use Rattle.uci_tool.proofs.CarryLemmas.{command_front, batch_front}

passes_front : (options : Options) (folder : Folder) (asked : Command) (input : List ℕ) → IsAmong folder (passes options folder asked input)
passes_front options folder (command.Import name) input = inl refl
passes_front options folder command.Batch input = batch_front options folder (lines_in input)
passes_front options folder (command.Show path) input = command_front options folder (command.Show path)
passes_front options folder (command.Get path) input = command_front options folder (command.Get path)
passes_front options folder (command.Stage verb word) input = command_front options folder (command.Stage verb word)
passes_front options folder (command.Add name kind) input = command_front options folder (command.Add name kind)
passes_front options folder (command.Changes name) input = command_front options folder (command.Changes name)
passes_front options folder (command.Revert path) input = command_front options folder (command.Revert path)
passes_front options folder (command.Commit name) input = command_front options folder (command.Commit name)
passes_front options folder (command.Export name) input = command_front options folder (command.Export name)

folders_front : (options : Options) (folder : Folder) (asked : Option Command) (input : List ℕ) → IsAmong folder (asked_folders options folder asked input)
folders_front options folder None input = inl refl
folders_front options folder (Some asked) input = passes_front options folder asked input

-- a command passes through the folder that it finds
pub words_front : (words : List (List ℕ)) (folder : Folder) (input : List ℕ) → IsAmong folder (uci_passes words folder input)
words_front words folder input = folders_front (asked_of words).options folder (asked_of words).command input

-- the folders of a command are those of the words that request for it
pub alone_images : {D : Type 0} (view : D → View) (words : List (List ℕ)) (asked : Asked) (command : Command) (store : Store) (input : List ℕ) (old new : D)
    → asked ≡ asked_of words → asked.command ≡ Some command → StaysOrStops store view old new (passes asked.options (folder_of store) command input)
    → StaysOrStops store view old new (uci_passes words (folder_of store) input)
alone_images view words asked command store input old new is some images =
    subst (λ (z : Asked). StaysOrStops store view old new (asked_folders z.options (folder_of store) z.command input)) is
    (subst (λ (z : Option Command). StaysOrStops store view old new (asked_folders asked.options (folder_of store) z input)) (sym some) images)
