-- What the user of a session keeps in it, by name.
use Rattle.std.specs.Prelude.{ℕ, List, ◌++◌, Option, Some, None, Bool, true, false, not, is_some, map, filter}
use Rattle.std.specs.List.{list_any, list_all}
use Rattle.std.specs.Ordering.{nat_cmp}
use Rattle.std.specs.declared.cmp.Ordering.{Ordering}
use Rattle.std.specs.Cmp.Lexicographic.{slice_cmp}
use Rattle.plane_words.specs.InOrder.{ordered}
use Rattle.blob_codec.specs.declared.blob.Blob.{Blob}
use Rattle.blob_codec.specs.declared.blob.Attr.{Attr}
use Rattle.rpc_session.specs.Grant.{same_text}
use Rattle.rpc_session.specs.Arguments.{text_of, array_of}

-- a value with this name is among these
abbrev pub has_name : List Attr → List ℕ → Bool
has_name attrs name = list_any (λ attr. same_text attr.name name) attrs

-- the names of values
abbrev pub names_of : List Attr → List (List ℕ)
names_of attrs = map (λ (attr : Attr). attr.name) attrs

-- the order of texts, byte by byte
abbrev pub byte_order : List ℕ → List ℕ → Ordering
byte_order = slice_cmp nat_cmp

-- the order of values: that of their names
abbrev pub by_name : Attr → Attr → Ordering
by_name one other = byte_order one.name other.name

-- the values in byte order of their names: of one name the last
abbrev pub in_order : List Attr → List Attr
in_order attrs = ordered by_name attrs

-- the values with others set
abbrev pub with_values : List Attr → List Attr → List Attr
with_values values others = in_order (values ++ others)

-- the text is this name
abbrev pub is_name : List ℕ → Option (List ℕ) → Bool
is_name name None = false
is_name name (Some text) = same_text text name

-- each item is a text
abbrev pub are_texts : List Attr → Bool
are_texts items = list_all (λ item. is_some (text_of item.value)) items

-- an array is there, and has texts alone
abbrev pub is_array_of_texts : Option (List Attr) → Bool
is_array_of_texts None = false
is_array_of_texts (Some items) = are_texts items

-- the argument `keys` is not there, or an array of texts
abbrev pub are_keys : Option Blob → Bool
are_keys None = true
are_keys (Some value) = is_array_of_texts (array_of value)

-- one of the items is the name
abbrev pub has_key : List Attr → List ℕ → Bool
has_key items name = list_any (λ item. is_name name (text_of item.value)) items

-- an array is there, and has the name
abbrev pub is_array_with : Option (List Attr) → List ℕ → Bool
is_array_with None name = false
is_array_with (Some items) name = has_key items name

-- the argument `keys` is not there, or has the name
abbrev pub is_asked : Option Blob → List ℕ → Bool
is_asked None name = true
is_asked (Some value) name = is_array_with (array_of value) name

-- the values that are asked for, in byte order of their names
abbrev pub asked_values : Option Blob → List Attr → List Attr
asked_values keys values = in_order (filter (λ attr. is_asked keys attr.name) values)

-- the other values
abbrev pub other_values : Option Blob → List Attr → List Attr
other_values keys values = filter (λ attr. not (is_asked keys attr.name)) values
