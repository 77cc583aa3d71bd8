-- What each method stages, on what its holder sees of a package (OpenWrt's rpcd). That `add` with a name sets that
-- section, and that an array of `set` is a remove and an add for each item, are rules of our own.
use Rattle.std.specs.Prelude.{ℕ, ◌+◌, List, [], ◌∷◌, Option, Some, None, Result, Ok, Err, false, codes}
use Rattle.std.specs.Fmt.{digits}
use Rattle.blob_codec.specs.declared.blob.Blob.TheVariants.{Str}
use Rattle.blob_codec.specs.declared.blob.Attr.{Attr}
use Rattle.rpc_session.specs.Arguments.{argument, needed_text, needed_array, text_of}
use Rattle.rpc_session.specs.Description.{named}
use Rattle.uci_tree.specs.declared.package.Section.{Section}
use Rattle.uci_tree.specs.declared.package.Package.{Package}
use Rattle.uci_tree.specs.Anonymous.{anonymous_name}
use Rattle.uci_delta.specs.declared.delta.Change.{Change}
use Rattle.uci_delta.specs.declared.delta.Change.TheVariants.{Set as SetTo, Remove, Add as AddOf, Rename as RenameTo}
use Rattle.uci_delta.specs.declared.delta.Change.TheVariants.{Reorder}
use Rattle.uci_delta.specs.Applied.{made_with}
use Rattle.rpc_rules.specs.declared.method.Edit.{Edit}
use Rattle.rpc_rules.specs.declared.method.Edit.TheVariants.{Add, Set, Delete, Rename, Order}
use Rattle.rpc_rules.specs.declared.plan.Plan.{Plan}
use Rattle.rpc_rules.specs.Status.{bad_argument, not_found, and_then}
use Rattle.rpc_rules.specs.Arguments.{values_argument, values_or_none}
use Rattle.rpc_rules.specs.Told.{section_of}
use Rattle.rpc_rules.specs.Plan.{start, taken, delta_of, values_taken}

-- ---- `add`

-- the name of the new section: the one that is given, or that of an anonymous section
abbrev pub new_name : Option (List ℕ) → List ℕ → Package → List ℕ
new_name None kind tree = anonymous_name (made_with tree.made 1) kind
new_name (Some name) kind tree = name

-- a section with a name is set to the type, whether it is there or not; without one it is added
abbrev pub new_change : Option (List ℕ) → List ℕ → Change
new_change None kind = AddOf kind
new_change (Some name) kind = SetTo kind

-- the name of the new section is told
abbrev pub name_told : List ℕ → List Attr
name_told section = named (codes "section") (Str section) ∷ []

abbrev pub with_name_told : List ℕ → Plan → Result Plan ℕ
with_name_told section plan = Ok (record plan { told = name_told section })

abbrev pub added_as : List ℕ → List ℕ → Change → List Attr → Package → Result Plan ℕ
added_as name section change values tree =
    and_then (and_then (taken (delta_of name section None change) (start tree)) (values_taken name section values))
    (with_name_told section)

abbrev pub add_of : List ℕ → Option (List ℕ) → Option (List ℕ) → List Attr → Package → Result Plan ℕ
add_of name None section values tree = Err bad_argument
add_of name (Some kind) section values tree =
    added_as name (new_name section kind tree) (new_change section kind) values tree

-- the section, and then its values
abbrev pub add_planned : List ℕ → List Attr → Package → Result Plan ℕ
add_planned name args tree =
    add_of name (needed_text (argument (codes "type") args)) (needed_text (argument (codes "name") args))
    (values_or_none (values_argument args)) tree

-- ---- `set`

abbrev pub values_set : List ℕ → List ℕ → List Attr → Package → Option Section → Result Plan ℕ
values_set name section values tree None = Err not_found
values_set name section values tree (Some found) = values_taken name section values (start tree)

abbrev pub set_of : List ℕ → Option (List ℕ) → Option (List Attr) → Package → Result Plan ℕ
set_of name None values tree = Err bad_argument
set_of name (Some section) None tree = Err bad_argument
set_of name (Some section) (Some values) tree = values_set name section values tree (section_of section tree.sections)

-- the values of a section that is there
abbrev pub set_planned : List ℕ → List Attr → Package → Result Plan ℕ
set_planned name args tree = set_of name (needed_text (argument (codes "section") args)) (values_argument args) tree

-- ---- `delete`

abbrev pub delete_of : List ℕ → Option (List ℕ) → Option (List ℕ) → Package → Result Plan ℕ
delete_of name None option tree = Err bad_argument
delete_of name (Some section) option tree = taken (delta_of name section option Remove) (start tree)

-- the section or the option goes
abbrev pub delete_planned : List ℕ → List Attr → Package → Result Plan ℕ
delete_planned name args tree =
    delete_of name (needed_text (argument (codes "section") args)) (needed_text (argument (codes "option") args)) tree

-- ---- `rename`

abbrev pub rename_of : List ℕ → Option (List ℕ) → Option (List ℕ) → Option (List ℕ) → Package → Result Plan ℕ
rename_of name None option new tree = Err bad_argument
rename_of name (Some section) option None tree = Err bad_argument
rename_of name (Some section) option (Some new) tree = taken (delta_of name section option (RenameTo new)) (start tree)

-- the section or the option gets the name
abbrev pub rename_planned : List ℕ → List Attr → Package → Result Plan ℕ
rename_planned name args tree =
    rename_of name (needed_text (argument (codes "section") args)) (needed_text (argument (codes "option") args))
    (needed_text (argument (codes "name") args)) tree

-- ---- `order`

-- a section moves to its place in the list
abbrev pub move_taken : List ℕ → ℕ → Option (List ℕ) → Plan → Result Plan ℕ
move_taken name place None plan = Err bad_argument
move_taken name place (Some section) plan = taken (delta_of name section None (Reorder (digits 10 false place))) plan

abbrev pub moves_taken : List ℕ → ℕ → List Attr → Plan → Result Plan ℕ
moves_taken name place [] plan = Ok plan
moves_taken name place (item ∷ items) plan =
    and_then (move_taken name place (text_of item.value) plan) (moves_taken name (place + 1) items)

abbrev pub order_of : List ℕ → Option (List Attr) → Package → Result Plan ℕ
order_of name None tree = Err bad_argument
order_of name (Some items) tree = moves_taken name 0 items (start tree)

-- each listed section moves to its place
abbrev pub order_planned : List ℕ → List Attr → Package → Result Plan ℕ
order_planned name args tree = order_of name (needed_array (argument (codes "sections") args)) tree

-- ---- all

-- what a call is to stage of the package of that name, which its holder sees so
abbrev pub planned : Edit → List ℕ → List Attr → Package → Result Plan ℕ
planned Add name args tree = add_planned name args tree
planned Set name args tree = set_planned name args tree
planned Delete name args tree = delete_planned name args tree
planned Rename name args tree = rename_planned name args tree
planned Order name args tree = order_planned name args tree
