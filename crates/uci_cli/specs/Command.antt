-- The commands of `uci` (OpenWrt's), and how many words each has.
use Rattle.std.specs.Prelude.{ℕ, List, [], ◌∷◌, codes, Bool, true, false, bytes_eq, Option, Some, None, if◌then◌else◌}
use Rattle.std.specs.Option.{option_and_then, option_map}
use Rattle.uci_cli.specs.declared.keyword.Verb.{Verb}
use Rattle.uci_cli.specs.declared.keyword.Verb.TheVariants as verb
use Rattle.uci_cli.specs.declared.keyword.Keyword.{Keyword}
use Rattle.uci_cli.specs.declared.keyword.Keyword.TheVariants as keyword
use Rattle.uci_cli.specs.declared.command.Command.{Command}
use Rattle.uci_cli.specs.declared.command.Command.TheVariants as command

-- the words of commands that stage a change
abbrev pub verb_of : List ℕ → Option Verb
verb_of word =
    if bytes_eq word (codes "set") then Some verb.Set else
    if bytes_eq word (codes "add_list") then Some verb.AddList else
    if bytes_eq word (codes "del_list") then Some verb.DelList else
    if bytes_eq word (codes "delete") then Some verb.Delete else
    if bytes_eq word (codes "rename") then Some verb.Rename else
    if bytes_eq word (codes "reorder") then Some verb.Reorder else None

-- the first words of commands
abbrev pub keyword_of : List ℕ → Option Keyword
keyword_of word =
    if bytes_eq word (codes "show") then Some keyword.Show else
    if bytes_eq word (codes "get") then Some keyword.Get else
    if bytes_eq word (codes "add") then Some keyword.Add else
    if bytes_eq word (codes "changes") then Some keyword.Changes else
    if bytes_eq word (codes "revert") then Some keyword.Revert else
    if bytes_eq word (codes "commit") then Some keyword.Commit else
    if bytes_eq word (codes "export") then Some keyword.Export else
    if bytes_eq word (codes "import") then Some keyword.Import else
    if bytes_eq word (codes "batch") then Some keyword.Batch else
    option_map keyword.Stage (verb_of word)

-- `show [PATH]`
abbrev pub show_command : List (List ℕ) → Option Command
show_command [] = Some (command.Show None)
show_command (path ∷ []) = Some (command.Show (Some path))
show_command _ = None

-- `get PATH`
abbrev pub get_command : List (List ℕ) → Option Command
get_command (path ∷ []) = Some (command.Get path)
get_command _ = None

-- `set PATH=V`, `add_list PATH=V`, `del_list PATH=V`, `delete PATH`, `rename PATH=N` and `reorder PATH=K`
abbrev pub stage_command : Verb → List (List ℕ) → Option Command
stage_command verb (word ∷ []) = Some (command.Stage verb word)
stage_command verb _ = None

-- `add P TYPE`
abbrev pub add_command : List (List ℕ) → Option Command
add_command (name ∷ kind ∷ []) = Some (command.Add name kind)
add_command _ = None

-- `changes [P]`
abbrev pub changes_command : List (List ℕ) → Option Command
changes_command [] = Some (command.Changes None)
changes_command (name ∷ []) = Some (command.Changes (Some name))
changes_command _ = None

-- `revert PATH`
abbrev pub revert_command : List (List ℕ) → Option Command
revert_command (path ∷ []) = Some (command.Revert path)
revert_command _ = None

-- `commit [P]`
abbrev pub commit_command : List (List ℕ) → Option Command
commit_command [] = Some (command.Commit None)
commit_command (name ∷ []) = Some (command.Commit (Some name))
commit_command _ = None

-- `export [P]`
abbrev pub export_command : List (List ℕ) → Option Command
export_command [] = Some (command.Export None)
export_command (name ∷ []) = Some (command.Export (Some name))
export_command _ = None

-- `import P`
abbrev pub import_command : List (List ℕ) → Option Command
import_command (name ∷ []) = Some (command.Import name)
import_command _ = None

-- `batch`
abbrev pub batch_command : List (List ℕ) → Option Command
batch_command [] = Some command.Batch
batch_command _ = None

-- what the words behind a keyword ask for
abbrev pub command_behind : Keyword → List (List ℕ) → Option Command
command_behind keyword.Show rest = show_command rest
command_behind keyword.Get rest = get_command rest
command_behind (keyword.Stage verb) rest = stage_command verb rest
command_behind keyword.Add rest = add_command rest
command_behind keyword.Changes rest = changes_command rest
command_behind keyword.Revert rest = revert_command rest
command_behind keyword.Commit rest = commit_command rest
command_behind keyword.Export rest = export_command rest
command_behind keyword.Import rest = import_command rest
command_behind keyword.Batch rest = batch_command rest

-- the command of words without options, and none where they are in no row of the table
abbrev pub command_of : List (List ℕ) → Option Command
command_of [] = None
command_of (first ∷ rest) = option_and_then (λ keyword. command_behind keyword rest) (keyword_of first)

-- the command reads the input
abbrev pub reads_input : Command → Bool
reads_input (command.Show path) = false
reads_input (command.Get path) = false
reads_input (command.Stage verb word) = false
reads_input (command.Add name kind) = false
reads_input (command.Changes name) = false
reads_input (command.Revert path) = false
reads_input (command.Commit name) = false
reads_input (command.Export name) = false
reads_input (command.Import name) = true
reads_input command.Batch = true
