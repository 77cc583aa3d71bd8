-- `commit`.
use Rattle.std.specs.Prelude.{ℕ, List, [], ◌∷◌, length, Option, Some, None, Result, Ok, Err, is_some, nat_le}
use Rattle.std.specs.Prelude.{if◌then◌else◌}
use Rattle.snap_disk.specs.declared.new_file.NewFile.{NewFile}
use Rattle.snap_disk.specs.Body.{most_bytes}
use Rattle.uci_tree.specs.declared.package.Package.{Package}
use Rattle.uci_staged.specs.Change.{has_deltas, without}
use Rattle.uci_store.specs.Committing.{file_text, with_file}
use Rattle.uci_cli.specs.declared.refusal.Refusal.{Refusal}
use Rattle.uci_cli.specs.declared.refusal.Refusal.TheVariants.{Waiting, TooLarge}
use Rattle.uci_tool.specs.Folder.{Folder, file_in}
use Rattle.uci_tool.specs.Seen.{if_ok, seen_at}

-- where no apply waits
abbrev pub where_free : {A : Type 0} → Folder → Result A Refusal → Result A Refusal
where_free folder answer = if is_some folder.files.waits then Err Waiting else answer

-- a file has these bytes, and what the command line had staged of its package is gone
abbrev pub written : Folder → NewFile → Folder
written folder new = record folder { files = with_file folder.files new; staged = without 0 new.file folder.staged }

-- the package is written, where it fits into a file
abbrev pub printed_at : Folder → ℕ → Package → Result Folder Refusal
printed_at folder file tree =
    if nat_le (length (file_text tree)) most_bytes
    then Ok (written folder (record { file = file; bytes = file_text tree }))
    else Err TooLarge

-- what is seen of a package is written, where something is staged of it
abbrev pub committed_file : Folder → ℕ → Result Folder Refusal
committed_file folder file = if has_deltas 0 file folder.staged
    then if_ok (seen_at folder file) (printed_at folder file) else Ok folder

-- `commit P`
abbrev pub commit_package : Folder → List ℕ → Result Folder Refusal
commit_package folder name = if_ok (file_in folder name) (λ file. where_free folder (committed_file folder file))

-- a folder, and why it is no other
pub record Changed : Type 0 where
  pub refusal : Option Refusal
  pub after : Folder

abbrev pub changed_by : Folder → Result Folder Refusal → Changed
changed_by folder (Err refusal) = record { refusal = Some refusal; after = folder }
changed_by folder (Ok after) = record { refusal = None; after = after }

-- each package is committed after those before it, up to the first that is refused
abbrev pub commit_each : Folder → List (List ℕ) → Changed
commit_each folder [] = record { refusal = None; after = folder }
commit_each folder (name ∷ names) =
    elim (commit_package folder name) as (λ _. Changed) [
      | Err refusal ↦ record { refusal = Some refusal; after = folder }
      | Ok after ↦ commit_each after names
    ]

-- `commit [P]`
abbrev pub commit_done : Folder → Option (List ℕ) → Changed
commit_done folder None = commit_each folder folder.names
commit_done folder (Some name) = changed_by folder (commit_package folder name)
