-- What a change of an option makes of the options of a section (OpenWrt's uci). That a name which is there is refused,
-- that an emptied list goes, and that one value counts as a list of one, are rules of our own.
use Rattle.std.specs.Prelude.{ℕ, List, [], ◌∷◌, Bool, not, ◌&&◌, Option, Some, None, Result, Ok, Err, if◌then◌else◌}
use Rattle.std.specs.Prelude.{bytes_eq, is_some}
use Rattle.std.specs.List.{filter}
use Rattle.uci_text.specs.declared.byte_class.ByteClass.TheVariants.{Name}
use Rattle.uci_tree.specs.declared.package.Value.{Value}
use Rattle.uci_tree.specs.declared.package.Value.TheVariants.{One, Many}
use Rattle.uci_tree.specs.declared.package.Opt.{Opt}
use Rattle.uci_tree.specs.Find.{option_place}
use Rattle.uci_tree.specs.Fold.{without, with_option, with_item}
use Rattle.uci_delta.specs.declared.delta.Change.{Change}
use Rattle.uci_delta.specs.declared.delta.Change.TheVariants.{Set, Remove, Add, Rename, Reorder, ListAdd, ListDel}
use Rattle.uci_delta.specs.declared.delta_error.DeltaError.{DeltaError}
use Rattle.uci_delta.specs.declared.delta_error.DeltaError.TheVariants.{NotFound, Invalid, Duplicate}
use Rattle.uci_delta.specs.First.{first_becomes}
use Rattle.uci_delta.specs.Names.{is_name_of, is_value}

abbrev pub is_option : List ℕ → Opt → Bool
is_option name option = bytes_eq option.name name

abbrev pub has_option : List ℕ → List Opt → Bool
has_option name options = is_some (option_place options name)

-- an option takes another name, which no option has
abbrev pub option_renamed : List ℕ → List ℕ → List Opt → Result (List Opt) DeltaError
option_renamed name new options =
    first_becomes (is_option name) NotFound
    (λ option. if not (is_name_of Name new) then Err Invalid else if has_option new options then Err Duplicate
    else Ok (record option { name = new } ∷ []))
    options

-- items as a list, where there are any
abbrev pub list_of : List (List ℕ) → Option Value
list_of [] = None
list_of (item ∷ items) = Some (Many (item ∷ items))

-- what is left of a value without each item that is equal to this one
abbrev pub left_of : List ℕ → Value → Option Value
left_of item (One value) = if bytes_eq value item then None else Some (One value)
left_of item (Many items) = list_of (filter (λ other. not (bytes_eq other item)) items)

-- the option with what is left, and nothing where nothing is
abbrev pub with_left : Opt → Option Value → List Opt
with_left option None = []
with_left option (Some value) = record option { value = value } ∷ []

-- the items that are equal go from an option, and an option that is not there lacks them
abbrev pub without_item : List ℕ → List ℕ → List Opt → Result (List Opt) DeltaError
without_item name item options = if has_option name options
    then first_becomes (is_option name) NotFound (λ option. Ok (with_left option (left_of item option.value))) options
    else Ok options

-- where the name is one, and the value may be one
abbrev pub where_valid : List ℕ → List ℕ → Result (List Opt) DeltaError → Result (List Opt) DeltaError
where_valid name value options = if is_name_of Name name && is_value value then options else Err Invalid

-- the options with a change of the option of this name; what is no change of an option is refused
abbrev pub options_with : List ℕ → Change → List Opt → Result (List Opt) DeltaError
options_with name (Set value) options = where_valid name value (Ok (with_option name value options))
options_with name Remove options = if has_option name options then Ok (without name options) else Err NotFound
options_with name (Add kind) options = Err Invalid
options_with name (Rename new) options = option_renamed name new options
options_with name (Reorder place) options = Err Invalid
options_with name (ListAdd item) options = where_valid name item (Ok (with_item name item options))
options_with name (ListDel item) options = where_valid name item (without_item name item options)
