-- What a change makes of the sections of a package (OpenWrt's uci). That a name which is there is refused is a rule of
-- our own.
use Rattle.std.specs.Prelude.{ℕ, List, [], ◌∷◌, ◌++◌, Bool, true, false, not, ◌&&◌, Option, Some, None, Result, Ok, Err}
use Rattle.std.specs.Prelude.{if◌then◌else◌, bytes_eq, is_some, take, drop}
use Rattle.uci_text.specs.declared.byte_class.ByteClass.TheVariants.{Name, Printable}
use Rattle.uci_tree.specs.declared.package.Section.{Section}
use Rattle.uci_tree.specs.Find.{named_place}
use Rattle.uci_delta.specs.declared.delta.Change.{Change}
use Rattle.uci_delta.specs.declared.delta.Change.TheVariants.{Set, Remove, Add, Rename, Reorder, ListAdd, ListDel}
use Rattle.uci_delta.specs.declared.delta_error.DeltaError.{DeltaError}
use Rattle.uci_delta.specs.declared.delta_error.DeltaError.TheVariants.{NotFound, Invalid, Duplicate}
use Rattle.uci_delta.specs.First.{made, first_becomes, first_alone, others}
use Rattle.uci_delta.specs.Names.{is_name_of}
use Rattle.uci_delta.specs.Place.{place_of}
use Rattle.uci_delta.specs.Options.{options_with}

abbrev pub is_section : List ℕ → Section → Bool
is_section name section = bytes_eq section.name name

abbrev pub has_section : List ℕ → List Section → Bool
has_section name sections = is_some (named_place sections name)

-- a section without options comes to the end
abbrev pub with_new : List ℕ → Bool → List ℕ → List Section → List Section
with_new name anonymous kind sections = sections
    ++ record { name = name; anonymous = anonymous; kind = kind; options = [] } ∷ []

-- where the name and the type are of their form
abbrev pub are_named : List ℕ → List ℕ → Bool
are_named name kind = is_name_of Name name && is_name_of Printable kind

abbrev pub where_named : List ℕ → List ℕ → Result (List Section) DeltaError → Result (List Section) DeltaError
where_named name kind sections = if are_named name kind then sections else Err Invalid

-- a section takes another type, or a named one comes
abbrev pub with_kind : List ℕ → List ℕ → List Section → Result (List Section) DeltaError
with_kind name kind sections = if has_section name sections
    then first_becomes (is_section name) Invalid (λ section. Ok (record section { kind = kind } ∷ [])) sections
    else Ok (with_new name false kind sections)

-- an anonymous section comes, whose name no section has
abbrev pub with_anonymous : List ℕ → List ℕ → List Section → Result (List Section) DeltaError
with_anonymous name kind sections = if has_section name sections then Err Duplicate
    else Ok (with_new name true kind sections)

-- a section takes another name, which no section has, and is named then
abbrev pub section_renamed : List ℕ → List ℕ → List Section → Result (List Section) DeltaError
section_renamed name new sections =
    first_becomes (is_section name) NotFound
    (λ section. if not (is_name_of Name new) then Err Invalid else if has_section new sections then Err Duplicate
    else Ok (record section { name = new; anonymous = false } ∷ []))
    sections

-- a section among the others at a place, from 0, or as the last one
abbrev pub put_at : Option ℕ → List Section → List Section → Result (List Section) DeltaError
put_at None moved rest = Err Invalid
put_at (Some place) moved rest = Ok (take place rest ++ moved ++ drop place rest)

abbrev pub reordered : List ℕ → List ℕ → List Section → Result (List Section) DeltaError
reordered name place sections = if has_section name sections
    then put_at (place_of place) (first_alone (is_section name) sections) (others (is_section name) sections)
    else Err NotFound

-- the sections with a change of the section of this name; what is no change of a section is refused
abbrev pub sections_with : List ℕ → Change → List Section → Result (List Section) DeltaError
sections_with name (Set kind) sections = where_named name kind (with_kind name kind sections)
sections_with name Remove sections = first_becomes (is_section name) NotFound (λ section. Ok []) sections
sections_with name (Add kind) sections = where_named name kind (with_anonymous name kind sections)
sections_with name (Rename new) sections = section_renamed name new sections
sections_with name (Reorder place) sections = reordered name place sections
sections_with name (ListAdd item) sections = Err Invalid
sections_with name (ListDel item) sections = Err Invalid

-- what is told where the section of an option is not there: removing and renaming look for it, the others put into it
abbrev pub lack_of : Change → DeltaError
lack_of (Set value) = Invalid
lack_of Remove = NotFound
lack_of (Add kind) = Invalid
lack_of (Rename new) = NotFound
lack_of (Reorder place) = Invalid
lack_of (ListAdd item) = Invalid
lack_of (ListDel item) = Invalid

-- the section with a change of an option in it
abbrev pub in_section : List ℕ → Change → Section → Result (List Section) DeltaError
in_section option change section =
    made (λ options. record section { options = options } ∷ []) (options_with option change section.options)

-- the sections with a change of an option in the section of this name
abbrev pub sections_with_option : List ℕ → List ℕ → Change → List Section → Result (List Section) DeltaError
sections_with_option name option change sections =
    first_becomes (is_section name) (lack_of change) (in_section option change) sections
