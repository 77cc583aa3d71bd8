-- What the command line sees of a package.
use Rattle.std.specs.Prelude.{ℕ, List, Option, Some, None, Result, Ok, Err}
use Rattle.uci_tree.specs.declared.fault.Fault.{Fault}
use Rattle.uci_tree.specs.declared.package.Package.{Package}
use Rattle.uci_tree.specs.declared.tree_error.TreeError.{TreeError}
use Rattle.uci_tree.specs.Fault.{fault_of}
use Rattle.uci_delta.specs.Batch.{all_applied}
use Rattle.uci_staged.specs.Change.{deltas_in}
use Rattle.uci_store.specs.Store.{name_of, text_of}
use Rattle.uci_cli.specs.declared.refusal.Refusal.{Refusal}
use Rattle.uci_cli.specs.declared.refusal.Refusal.TheVariants.{Invalid, Parse}
use Rattle.uci_tool.specs.Folder.{Folder, file_in}
use Rattle.uci_tool.specs.Reading.{package_in}

-- what follows an answer that is no refusal
abbrev pub if_ok : {A B : Type 0} → Result A Refusal → (A → Result B Refusal) → Result B Refusal
if_ok (Err refusal) next = Err refusal
if_ok (Ok value) next = next value

-- a fault is told by its line and its reason; want of memory is none
abbrev pub refusal_of : Option Fault → Refusal
refusal_of None = Invalid
refusal_of (Some fault) = Parse fault

abbrev pub parsed : {A : Type 0} → Result A TreeError → Result A Refusal
parsed (Ok value) = Ok value
parsed (Err error) = Err (refusal_of (fault_of error))

-- the package of a file as it is committed
abbrev pub committed_at : Folder → ℕ → Result Package Refusal
committed_at folder file = parsed (package_in (name_of folder.names file) (text_of folder.files file))

-- and as the command line sees it: with its own changes, of which those that are refused are passed over
abbrev pub seen_at : Folder → ℕ → Result Package Refusal
seen_at folder file = if_ok (committed_at folder file) (λ tree. Ok (all_applied tree (deltas_in 0 file folder.staged)))

-- the package of a name as it is seen
abbrev pub seen : Folder → List ℕ → Result Package Refusal
seen folder name = if_ok (file_in folder name) (seen_at folder)
