-- What a command sees and changes. The holder of the command line's changes is 0.
use Rattle.std.specs.Prelude.{ℕ, List, Result}
use Rattle.std.specs.Option.{ok_or}
use Rattle.snap_disk.specs.Opened.{State}
use Rattle.uci_staged.specs.declared.change.StagedChange.{StagedChange}
use Rattle.uci_store.specs.declared.store.Store.{Store}
use Rattle.uci_store.specs.Store.{names_of, files_of, staged_in, file_of}
use Rattle.uci_cli.specs.declared.refusal.Refusal.{Refusal}
use Rattle.uci_cli.specs.declared.refusal.Refusal.TheVariants.{NoPackage}

-- the names of the packages in byte order, their files and what waits over these, and what holders have staged
pub record Folder : Type 0 where
  pub names : List (List ℕ)
  pub files : State
  pub staged : List StagedChange

abbrev pub folder_of : Store → Folder
folder_of store = record { names = names_of store; files = files_of store; staged = staged_in store }

-- the number of the file of a package
abbrev pub file_in : Folder → List ℕ → Result ℕ Refusal
file_in folder name = ok_or (file_of folder.names name) NoPackage
