-- Commands that stage a change, and `revert`.
use Rattle.std.specs.Prelude.{ℕ, ℤ, List, [], ◌∷◌, ◌++◌, Bool, true, Option, Some, None, Result, Ok, Err, is_some}
use Rattle.std.specs.Prelude.{is_none, slice_get, if◌then◌else◌}
use Rattle.std.specs.Option.{ok_or, option_map, option_and_then}
use Rattle.uci_tree.specs.declared.package.Package.{Package}
use Rattle.uci_tree.specs.declared.path.Path.{Path}
use Rattle.uci_tree.specs.declared.path.SectionRef.{SectionRef}
use Rattle.uci_tree.specs.declared.path.SectionRef.TheVariants.{Name as ByName, Place as ByPlace}
use Rattle.uci_tree.specs.Anonymous.{anonymous_name}
use Rattle.uci_tree.specs.declared.lookup.Place.{Place}
use Rattle.uci_tree.specs.Find.{place_of}
use Rattle.uci_delta.specs.declared.delta.Change.{Change}
use Rattle.uci_delta.specs.declared.delta.Change.TheVariants.{Set, Remove, Add, Rename, Reorder, ListAdd, ListDel}
use Rattle.uci_delta.specs.declared.delta.Delta.{Delta}
use Rattle.uci_delta.specs.declared.delta_error.DeltaError.{DeltaError}
use Rattle.uci_delta.specs.declared.delta_error.DeltaError.TheVariants as delta_error
use Rattle.uci_delta.specs.Applied.{applied, made_with}
use Rattle.uci_delta.specs.Print.{equals_sign}
use Rattle.uci_staged.specs.Change.{reverted}
use Rattle.uci_cli.specs.declared.keyword.Verb.{Verb}
use Rattle.uci_cli.specs.declared.keyword.Verb.TheVariants as verb
use Rattle.uci_cli.specs.declared.refusal.Refusal.{Refusal}
use Rattle.uci_cli.specs.declared.refusal.Refusal.TheVariants.{NotFound, Invalid, Duplicate}
use Rattle.uci_cli.specs.Get.{line_of}
use Rattle.uci_tool.specs.Folder.{Folder, file_in}
use Rattle.uci_tool.specs.Paths.{cut}
use Rattle.uci_tool.specs.Seen.{if_ok, seen, seen_at}
use Rattle.uci_tool.specs.Texts.{path_word}

-- why a package does not take a change; want of memory is none
abbrev pub delta_refusal : DeltaError → Refusal
delta_refusal delta_error.NotFound = NotFound
delta_refusal delta_error.Invalid = Invalid
delta_refusal delta_error.Duplicate = Duplicate
delta_refusal delta_error.Memory = Invalid

abbrev pub taken : {A : Type 0} → Result A DeltaError → Result A Refusal
taken (Ok value) = Ok value
taken (Err error) = Err (delta_refusal error)

-- a change of the command line comes behind those that are staged
abbrev pub with_change : Folder → ℕ → Delta → Folder
with_change folder file delta =
    record folder { staged = folder.staged ++ record { holder = 0; file = file; delta = delta } ∷ [] }

-- the folder with a change staged, where what is seen of the package takes it
abbrev pub staged_at : Folder → Delta → ℕ → Result Folder Refusal
staged_at folder delta file = if_ok (seen_at folder file)
    (λ view. if_ok (taken (applied view delta)) (λ tree. Ok (with_change folder file delta)))

abbrev pub staged_with : Folder → Delta → Result Folder Refusal
staged_with folder delta = if_ok (file_in folder delta.«package») (staged_at folder delta)

-- the section of a type that has this index
abbrev pub at_place : List ℕ → ℤ → Path
at_place kind index = record { «package» = []; section = Some (ByPlace kind index); option = None }

abbrev pub name_of : Package → Place → Option (List ℕ)
name_of tree place = option_map (λ section. section.name) (slice_get tree.sections place.section)

-- and its name
abbrev pub name_at : Package → List ℕ → ℤ → Option (List ℕ)
name_at tree kind index = option_and_then (name_of tree) (place_of tree (at_place kind index))

-- the name that a path means; that of a section by its place is looked up in what is seen
abbrev pub name_in : Folder → List ℕ → SectionRef → Result (List ℕ) Refusal
name_in folder name (ByName section) = Ok section
name_in folder name (ByPlace kind index) = if_ok (seen folder name) (λ tree. ok_or (name_at tree kind index) NotFound)

-- the path and the value of a word: `delete` has a path alone, and the other words are cut at the first `=`
abbrev pub cut_word : Verb → List ℕ → Result (List ℕ × List ℕ) Refusal
cut_word verb.Delete word = Ok (word, [])
cut_word verb.Set word = ok_or (cut equals_sign word) Invalid
cut_word verb.AddList word = ok_or (cut equals_sign word) Invalid
cut_word verb.DelList word = ok_or (cut equals_sign word) Invalid
cut_word verb.Rename word = ok_or (cut equals_sign word) Invalid
cut_word verb.Reorder word = ok_or (cut equals_sign word) Invalid

abbrev pub change_of : Verb → List ℕ → Change
change_of verb.Set value = Set value
change_of verb.AddList value = ListAdd value
change_of verb.DelList value = ListDel value
change_of verb.Delete value = Remove
change_of verb.Rename value = Rename value
change_of verb.Reorder value = Reorder value

-- items of lists are those of options, and sections alone have places
abbrev pub fits : Verb → Option (List ℕ) → Bool
fits verb.Set option = true
fits verb.AddList option = is_some option
fits verb.DelList option = is_some option
fits verb.Delete option = true
fits verb.Rename option = true
fits verb.Reorder option = is_none option

-- the change of what a path with a section leads to is staged
abbrev pub stage_named : Folder → List ℕ → SectionRef → Option (List ℕ) → Change → Result Folder Refusal
stage_named folder name reference option change =
    if_ok (name_in folder name reference)
    (λ section. staged_with folder (record { «package» = name; section = section; option = option; change = change }))

abbrev pub stage_section : Verb → List ℕ → Folder → Path → Option SectionRef → Result Folder Refusal
stage_section verb value folder path None = Err Invalid
stage_section verb value folder path (Some reference) =
    if fits verb path.option then stage_named folder path.«package» reference path.option (change_of verb value)
    else Err Invalid

abbrev pub stage_path : Verb → List ℕ → Folder → Path → Result Folder Refusal
stage_path verb value folder path = stage_section verb value folder path path.section

abbrev pub stage_cut : Verb → Folder → List ℕ → List ℕ → Result Folder Refusal
stage_cut verb folder path value = if_ok (path_word path) (stage_path verb value folder)

-- `set PATH=V`, `add_list PATH=V`, `del_list PATH=V`, `delete PATH`, `rename PATH=N` and `reorder PATH=K`
abbrev pub stage_word : Verb → Folder → List ℕ → Result Folder Refusal
stage_word verb folder word = if_ok (cut_word verb word) (λ parts. stage_cut verb folder parts.0 parts.1)

-- the name that the next section of a type gets, behind so many
abbrev pub new_name : ℕ → List ℕ → List ℕ
new_name made kind = anonymous_name (made_with made 1) kind

abbrev pub added : List ℕ → List ℕ → List ℕ → Delta
added name section kind = record { «package» = name; section = section; option = None; change = Add kind }

-- what was printed, and the folder behind it
pub record Effect : Type 0 where
  pub output : List ℕ
  pub after : Folder

abbrev pub add_behind : Folder → ℕ → List ℕ → List ℕ → Result Effect Refusal
add_behind folder made name kind =
    if_ok (staged_with folder (added name (new_name made kind) kind))
    (λ after. Ok (record { output = line_of (new_name made kind); after = after }))

-- `add P TYPE`: the new name is printed
abbrev pub add_done : Folder → List ℕ → List ℕ → Result Effect Refusal
add_done folder name kind = if_ok (seen folder name) (λ tree. add_behind folder tree.made name kind)

-- a path in which a section has its name
abbrev pub by_name : Folder → Path → Option SectionRef → Result Path Refusal
by_name folder path None = Ok path
by_name folder path (Some reference) =
    if_ok (name_in folder path.«package» reference) (λ name. Ok (record path { section = Some (ByName name) }))

abbrev pub reverted_at : Folder → Path → ℕ → Folder
reverted_at folder path file = record folder { staged = reverted 0 file path folder.staged }

abbrev pub revert_path : Folder → Path → Result Folder Refusal
revert_path folder path = if_ok (file_in folder path.«package») (λ file. Ok (reverted_at folder path file))

abbrev pub revert_named : Folder → Path → Result Folder Refusal
revert_named folder path = if_ok (by_name folder path path.section) (revert_path folder)

-- `revert PATH`
abbrev pub revert_word : Folder → List ℕ → Result Folder Refusal
revert_word folder word = if_ok (path_word word) (revert_named folder)
