-- The JSON value of attributes.
use Rattle.std.specs.Prelude.{ℕ, ℤ, pos, negsuc, List, [], ◌∷◌, Bool, true, not, nat_eq, bytes_eq, map, Option, Some}
use Rattle.std.specs.Prelude.{None, if◌then◌else◌}
use Rattle.serde_json.specs.Data.{Data, null, boolean, number, string, array, object, Members, no_members, put}
use Rattle.serde_json.specs.Find.{of_integer}
use Rattle.serde_json.specs.View.{items_of}
use Rattle.blob_codec.specs.AsText.{json_text_of}
use Rattle.blob_codec.specs.declared.blob.Blob.{Blob, fold-Blob}
use Rattle.blob_codec.specs.declared.blob.Blob.TheOpen.{Blob-F, Attr-F}
use Rattle.blob_codec.specs.declared.blob.Attr.{Attr}

-- a byte is true where it is not 0
abbrev pub is_truth : ℤ → Bool
is_truth (pos n) = not (nat_eq n 0)
is_truth (negsuc n) = true

-- a name as text, and a value
abbrev pub Named : Type 0
Named = List ℕ × Data

-- the members with these put in, each in place of an earlier one of its name
abbrev pub put_all : Members → List Named → Members
put_all members [] = members
put_all members (first ∷ others) = put_all (put first.0 first.1 members) others

-- one level, with the data of each attribute inside
abbrev pub data_step : Blob-F Data Named → Data
data_step Blob-F.Unspec = null
data_step (Blob-F.Array attrs) = array (items_of (map (λ attr. attr.1) attrs))
data_step (Blob-F.Table attrs) = object (put_all no_members attrs)
data_step (Blob-F.Str text) = string (json_text_of text)
data_step (Blob-F.I64 n) = number (of_integer n)
data_step (Blob-F.I32 n) = number (of_integer n)
data_step (Blob-F.I16 n) = number (of_integer n)
data_step (Blob-F.I8 n) = boolean (is_truth n)

abbrev pub named_step : Attr-F Data Named → Named
named_step attr = (json_text_of attr.name, attr.value)

-- the JSON value of a value
abbrev pub data_of : Blob → Data
data_of = fold-Blob Data Named data_step named_step

-- an attribute's name as text, and its JSON value
abbrev pub named_of : Attr → Named
named_of attr = (json_text_of attr.name, data_of attr.value)

-- the members of an object, of which those of one name are the last of that name
abbrev pub members_of : List Attr → Members
members_of attrs = put_all no_members (map named_of attrs)

-- the JSON value of attributes
abbrev pub json_of : List Attr → Data
json_of attrs = object (members_of attrs)

-- the first of two that is there
abbrev pub first_there : Option Data → Option Data → Option Data
first_there (Some value) other = Some value
first_there None other = other

-- the value of the last with this name, if there is one
abbrev pub last_named : List ℕ → List Named → Option Data
last_named title [] = None
last_named title (first ∷ others) =
    first_there (last_named title others) (if bytes_eq title first.0 then Some first.1 else None)
