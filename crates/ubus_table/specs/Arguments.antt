-- Arguments of a method: of equal names the last counts.
use Rattle.std.specs.Prelude.{ℕ, ℤ, List, [], ◌∷◌, Option, Some, None, if◌then◌else◌, option_and_then}
use Rattle.blob_codec.specs.declared.blob.Blob.{Blob}
use Rattle.blob_codec.specs.declared.blob.Blob.TheOpen.{Blob-F}
use Rattle.blob_codec.specs.declared.blob.Blob.TheViews.{out-Blob}
use Rattle.blob_codec.specs.declared.blob.Attr.{Attr}
use Rattle.ubus_table.specs.Table.{same_text}

-- the value of the last argument with this name, or the one told earlier
abbrev pub argument_or : Option Blob → List ℕ → List Attr → Option Blob
argument_or earlier name [] = earlier
argument_or earlier name (attr ∷ others) =
    argument_or (if same_text attr.name name then Some attr.value else earlier) name others

abbrev pub argument : List ℕ → List Attr → Option Blob
argument name args = argument_or None name args

abbrev pub text_in : Blob-F Blob Attr → Option (List ℕ)
text_in Blob-F.Unspec = None
text_in (Blob-F.Array items) = None
text_in (Blob-F.Table attrs) = None
text_in (Blob-F.Str text) = Some text
text_in (Blob-F.I64 n) = None
text_in (Blob-F.I32 n) = None
text_in (Blob-F.I16 n) = None
text_in (Blob-F.I8 n) = None

-- the text of a value that is one
abbrev pub text_of : Blob → Option (List ℕ)
text_of value = text_in (out-Blob value)

abbrev pub values_in : Blob-F Blob Attr → Option (List Attr)
values_in Blob-F.Unspec = None
values_in (Blob-F.Array items) = None
values_in (Blob-F.Table attrs) = Some attrs
values_in (Blob-F.Str text) = None
values_in (Blob-F.I64 n) = None
values_in (Blob-F.I32 n) = None
values_in (Blob-F.I16 n) = None
values_in (Blob-F.I8 n) = None

-- the values of a value that is a table
abbrev pub values_of : Blob → Option (List Attr)
values_of value = values_in (out-Blob value)

abbrev pub number_in : Blob-F Blob Attr → Option ℤ
number_in Blob-F.Unspec = None
number_in (Blob-F.Array items) = None
number_in (Blob-F.Table attrs) = None
number_in (Blob-F.Str text) = None
number_in (Blob-F.I64 n) = Some n
number_in (Blob-F.I32 n) = Some n
number_in (Blob-F.I16 n) = Some n
number_in (Blob-F.I8 n) = None

-- the number of a value that is one, of 64, 32 or 16 bits
abbrev pub number_of : Blob → Option ℤ
number_of value = number_in (out-Blob value)

abbrev pub text_argument : List ℕ → List Attr → Option (List ℕ)
text_argument name args = option_and_then text_of (argument name args)

abbrev pub table_argument : List ℕ → List Attr → Option (List Attr)
table_argument name args = option_and_then values_of (argument name args)

abbrev pub number_argument : List ℕ → List Attr → Option ℤ
number_argument name args = option_and_then number_of (argument name args)
