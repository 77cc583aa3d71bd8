-- `import`.
use Rattle.std.specs.Prelude.{ℕ, List, Result, if◌then◌else◌}
use Rattle.uci_tree.specs.declared.package.Package.{Package}
use Rattle.uci_cli.specs.declared.options.Options.{Options}
use Rattle.uci_cli.specs.declared.refusal.Refusal.{Refusal}
use Rattle.uci_tool.specs.Folder.{Folder, file_in}
use Rattle.uci_tool.specs.Merging.{merged}
use Rattle.uci_tool.specs.Reading.{package_in}
use Rattle.uci_tool.specs.Seen.{if_ok, parsed, seen}
use Rattle.uci_tool.specs.Commit.{where_free, printed_at}

-- a package is written in place of what is committed
abbrev pub replaced : Folder → Package → Result Folder Refusal
replaced folder tree = if_ok (file_in folder tree.name) (λ file. where_free folder (printed_at folder file tree))

abbrev pub merge_done : Folder → List ℕ → List ℕ → Result Folder Refusal
merge_done folder name input = if_ok (seen folder name) (λ view. if_ok (merged view input) (replaced folder))

-- `import P`, and with `-m` over what is seen
abbrev pub import_done : Options → Folder → List ℕ → List ℕ → Result Folder Refusal
import_done options folder name input =
    if_ok (parsed (package_in name input))
    (λ tree. if options.merge then merge_done folder name input else replaced folder tree)
