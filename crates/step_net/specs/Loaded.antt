-- What is loaded of the files.
use Rattle.std.specs.Prelude.{ℕ, ◌≡◌, List, [], Some, None, IfSome, codes}
use Rattle.uci_tree.specs.declared.fault.Fault.{Fault}
use Rattle.uci_tree.specs.declared.package.Package.{Package}
use Rattle.uci_tree.specs.declared.tree_error.TreeError.{TreeError}
use Rattle.uci_tree.specs.Fault.{fault_of}
use Rattle.uci_tree.specs.Reading.{Reads, HasTreeFault}
use Rattle.uci_store.specs.Store.{file_of, name_of, text_of}
use Rattle.uci_tool.specs.Folder.{Folder}

-- the packages of which rows are loaded
abbrev pub network_name : List ℕ
network_name = codes "network"

abbrev pub wireless_name : List ℕ
wireless_name = codes "wireless"

-- a package that says nothing
abbrev pub no_package : Package
no_package = record { name = []; sections = []; made = 0 }

-- The package of a name as it is committed. One that no file has says nothing.
pub data IsLoaded (folder : Folder) (name : List ℕ) : Package → Type 0 where
  absent : file_of folder.names name ≡ None → IsLoaded folder name no_package
  read : (file : ℕ) (tree : Package) → file_of folder.names name ≡ Some file
      → Reads (name_of folder.names file) (text_of folder.files file) tree
      → IsLoaded folder name tree

-- the file of the package is no package, and this is its first fault
pub record DoesNotLoad (folder : Folder) (name : List ℕ) (fault : Fault) : Type 0 where
  pub file : ℕ
  pub number : file_of folder.names name ≡ Some file
  pub error : TreeError
  pub refused : HasTreeFault (text_of folder.files file) error
  pub is : fault_of error ≡ Some fault

-- of an error that is a fault, and not want of memory
abbrev pub LoadRefuses : Folder → List ℕ → TreeError → Type 0
LoadRefuses folder name error = IfSome (fault_of error) (DoesNotLoad folder name)
