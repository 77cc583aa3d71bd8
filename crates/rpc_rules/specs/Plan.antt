-- Deltas that a call is to stage, tried one after another on what its holder sees.
use Rattle.std.specs.Prelude.{ℕ, List, [], ◌∷◌, ◌++◌, Option, Some, None, Result, Ok, Err, Bool, false, is_some}
use Rattle.std.specs.Prelude.{if◌then◌else◌}
use Rattle.blob_codec.specs.declared.blob.Blob.{Blob}
use Rattle.blob_codec.specs.declared.blob.Blob.TheOpen.{Blob-F}
use Rattle.blob_codec.specs.declared.blob.Blob.TheViews.{out-Blob}
use Rattle.blob_codec.specs.declared.blob.Attr.{Attr}
use Rattle.rpc_session.specs.Arguments.{text_of}
use Rattle.uci_tree.specs.declared.package.Section.{Section}
use Rattle.uci_tree.specs.declared.package.Package.{Package}
use Rattle.uci_delta.specs.declared.delta.Change.{Change}
use Rattle.uci_delta.specs.declared.delta.Change.TheVariants.{Set, Remove, ListAdd}
use Rattle.uci_delta.specs.declared.delta.Delta.{Delta}
use Rattle.uci_delta.specs.declared.delta_error.DeltaError.{DeltaError}
use Rattle.uci_delta.specs.Applied.{applied}
use Rattle.rpc_rules.specs.declared.plan.Plan.{Plan}
use Rattle.rpc_rules.specs.Status.{bad_argument, status_of, and_then}
use Rattle.rpc_rules.specs.Told.{section_of, option_of}

-- nothing is to be staged yet, and nothing is told
abbrev pub start : Package → Plan
start tree = record { tree = tree; deltas = []; told = [] }

-- a delta more is to be staged, where the package takes it
abbrev pub with_delta : Delta → Plan → Result Package DeltaError → Result Plan ℕ
with_delta delta plan (Ok tree) = Ok (record { tree = tree; deltas = plan.deltas ++ delta ∷ []; told = plan.told })
with_delta delta plan (Err error) = Err (status_of error)

abbrev pub taken : Delta → Plan → Result Plan ℕ
taken delta plan = with_delta delta plan (applied plan.tree delta)

-- a change of a section or an option of a package
abbrev pub delta_of : List ℕ → List ℕ → Option (List ℕ) → Change → Delta
delta_of name section option change = record { «package» = name; section = section; option = option; change = change }

-- ---- values

-- the section has the option
abbrev pub has_option : List ℕ → Option Section → Bool
has_option option None = false
has_option option (Some section) = is_some (option_of option section.options)

-- an option that is there goes
abbrev pub option_gone : List ℕ → List ℕ → List ℕ → Plan → Result Plan ℕ
option_gone name section option plan =
    if has_option option (section_of section plan.tree.sections)
    then taken (delta_of name section (Some option) Remove) plan else Ok plan

-- an item comes
abbrev pub item_taken : List ℕ → List ℕ → List ℕ → Option (List ℕ) → Plan → Result Plan ℕ
item_taken name section option None plan = Err bad_argument
item_taken name section option (Some text) plan = taken (delta_of name section (Some option) (ListAdd text)) plan

abbrev pub items_taken : List ℕ → List ℕ → List ℕ → List Attr → Plan → Result Plan ℕ
items_taken name section option [] plan = Ok plan
items_taken name section option (item ∷ items) plan =
    and_then (item_taken name section option (text_of item.value) plan) (items_taken name section option items)

-- an array: the option goes where it is there, and then its items come one by one
abbrev pub list_taken : List ℕ → List ℕ → List ℕ → List Attr → Plan → Result Plan ℕ
list_taken name section option items plan =
    and_then (option_gone name section option plan) (items_taken name section option items)

-- a text is set, an array makes a list
abbrev pub value_taken_in : List ℕ → List ℕ → List ℕ → Blob-F Blob Attr → Plan → Result Plan ℕ
value_taken_in name section option Blob-F.Unspec plan = Err bad_argument
value_taken_in name section option (Blob-F.Array items) plan = list_taken name section option items plan
value_taken_in name section option (Blob-F.Table attrs) plan = Err bad_argument
value_taken_in name section option (Blob-F.Str text) plan = taken (delta_of name section (Some option) (Set text)) plan
value_taken_in name section option (Blob-F.I64 n) plan = Err bad_argument
value_taken_in name section option (Blob-F.I32 n) plan = Err bad_argument
value_taken_in name section option (Blob-F.I16 n) plan = Err bad_argument
value_taken_in name section option (Blob-F.I8 n) plan = Err bad_argument

abbrev pub value_taken : List ℕ → List ℕ → Attr → Plan → Result Plan ℕ
value_taken name section attr plan = value_taken_in name section attr.name (out-Blob attr.value) plan

-- values by option, in their order
abbrev pub values_taken : List ℕ → List ℕ → List Attr → Plan → Result Plan ℕ
values_taken name section [] plan = Ok plan
values_taken name section (attr ∷ attrs) plan =
    and_then (value_taken name section attr plan) (values_taken name section attrs)
