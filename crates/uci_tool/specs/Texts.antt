-- Commands that print and change nothing: `show`, `get`, `changes` and `export`.
use Rattle.std.specs.Prelude.{ℕ, List, [], ◌∷◌, ◌++◌, true, Option, Some, None, Result, Ok, Err, is_some, if◌then◌else◌}
use Rattle.std.specs.Option.{ok_or}
use Rattle.uci_tree.specs.declared.path.Path.{Path}
use Rattle.uci_tree.specs.Print.{printed}
use Rattle.uci_staged.specs.Change.{deltas_in}
use Rattle.uci_cli.specs.declared.options.Options.{Options}
use Rattle.uci_cli.specs.declared.refusal.Refusal.{Refusal}
use Rattle.uci_cli.specs.declared.refusal.Refusal.TheVariants.{NotFound, Invalid}
use Rattle.uci_cli.specs.Show.{shown, shown_path}
use Rattle.uci_cli.specs.Get.{given_path}
use Rattle.uci_cli.specs.Changes.{change_lines}
use Rattle.uci_tool.specs.declared.texts.Printed.{Printed}
use Rattle.uci_tool.specs.declared.texts.Listing.{Listing}
use Rattle.uci_tool.specs.declared.texts.Listing.TheVariants as listing
use Rattle.uci_tool.specs.Folder.{Folder, file_in}
use Rattle.uci_tool.specs.Paths.{path_in}
use Rattle.uci_tool.specs.Seen.{if_ok, seen}

-- the path that a word is
abbrev pub path_word : List ℕ → Result Path Refusal
path_word word = ok_or (path_in word) Invalid

-- `show PATH`: of a package, a section or an option, and `show` of each package
abbrev pub show_of : Options → Folder → Path → Result (List ℕ) Refusal
show_of options folder path = if_ok (seen folder path.«package») (λ tree. ok_or (shown_path options tree path) NotFound)

abbrev pub show_word : Options → Folder → List ℕ → Result (List ℕ) Refusal
show_word options folder word = if_ok (path_word word) (show_of options folder)

abbrev pub show_package : Options → Folder → List ℕ → Result (List ℕ) Refusal
show_package options folder name = if_ok (seen folder name) (λ tree. Ok (shown options tree))

-- `get PATH`: the path has a section
abbrev pub get_path : Options → Folder → Path → Result (List ℕ) Refusal
get_path options folder path =
    if is_some path.section
    then if_ok (seen folder path.«package») (λ tree. ok_or (given_path options.between tree path) NotFound)
    else Err Invalid

abbrev pub get_word : Options → Folder → List ℕ → Result (List ℕ) Refusal
get_word options folder word = if_ok (path_word word) (get_path options folder)

-- `changes P`: what the command line has staged of a package, whose file is not read
abbrev pub changes_of : Folder → List ℕ → Result (List ℕ) Refusal
changes_of folder name = if_ok (file_in folder name) (λ file. Ok (change_lines (deltas_in 0 file folder.staged)))

-- `export P`
abbrev pub export_package : Options → Folder → List ℕ → Result (List ℕ) Refusal
export_package options folder name = if_ok (seen folder name) (λ tree. Ok (printed tree true options.names))

-- what was printed, and why no more was
abbrev pub alone : Result (List ℕ) Refusal → Printed
alone (Err refusal) = record { output = []; refusal = Some refusal }
alone (Ok text) = record { output = text; refusal = None }

abbrev pub before : Result (List ℕ) Refusal → Printed → Printed
before (Err refusal) behind = record { output = []; refusal = Some refusal }
before (Ok text) behind = record { output = text ++ behind.output; refusal = behind.refusal }

-- the texts of packages one after another, up to the first that is refused
abbrev pub each : (List ℕ → Result (List ℕ) Refusal) → List (List ℕ) → Printed
each text [] = record { output = []; refusal = None }
each text (name ∷ names) = before (text name) (each text names)

-- the text of a package, or of all of them
abbrev pub of_named : (List ℕ → Result (List ℕ) Refusal) → List (List ℕ) → Option (List ℕ) → Printed
of_named text names None = each text names
of_named text names (Some name) = alone (text name)

-- what is listed of each package
abbrev pub listed : Listing → Options → Folder → List ℕ → Result (List ℕ) Refusal
listed listing.Show options folder name = show_package options folder name
listed listing.Changes options folder name = changes_of folder name
listed listing.Export options folder name = export_package options folder name

-- `show [PATH]`
abbrev pub show_done : Options → Folder → Option (List ℕ) → Printed
show_done options folder None = each (show_package options folder) folder.names
show_done options folder (Some word) = alone (show_word options folder word)
