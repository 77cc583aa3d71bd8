-- The arguments of a method, by name (OpenWrt's rpcd).
use Rattle.std.specs.Prelude.{ℕ, ◌^◌, ℤ, pos, negsuc, List, [], ◌∷◌, Option, Some, None, Result, Ok, Err, codes, nat_lt}
use Rattle.std.specs.Prelude.{if◌then◌else◌}
use Rattle.std.specs.Int.{w128, from_be_bytes, to_be_bytes}
use Rattle.hex.specs.Hex.{decode_sized, encode_lower}
use Rattle.hex.specs.declared.error.FromHexError.{FromHexError}
use Rattle.blob_codec.specs.declared.blob.Blob.{Blob}
use Rattle.blob_codec.specs.declared.blob.Blob.TheOpen.{Blob-F}
use Rattle.blob_codec.specs.declared.blob.Blob.TheViews.{out-Blob}
use Rattle.blob_codec.specs.declared.blob.Attr.{Attr}
use Rattle.rpc_session.specs.Grant.{same_text}

-- the value of the last argument with this name, or the one told earlier
abbrev pub argument_or : Option Blob → List ℕ → List Attr → Option Blob
argument_or earlier name [] = earlier
argument_or earlier name (attr ∷ others) =
    argument_or (if same_text attr.name name then Some attr.value else earlier) name others

-- the value of the last argument with this name
abbrev pub argument : List ℕ → List Attr → Option Blob
argument name args = argument_or None name args

-- the text of a value that is one
abbrev pub text_in : Blob-F Blob Attr → Option (List ℕ)
text_in Blob-F.Unspec = None
text_in (Blob-F.Array items) = None
text_in (Blob-F.Table attrs) = None
text_in (Blob-F.Str text) = Some text
text_in (Blob-F.I64 n) = None
text_in (Blob-F.I32 n) = None
text_in (Blob-F.I16 n) = None
text_in (Blob-F.I8 n) = None

abbrev pub text_of : Blob → Option (List ℕ)
text_of value = text_in (out-Blob value)

-- the items of a value that is an array
abbrev pub items_in : Blob-F Blob Attr → Option (List Attr)
items_in Blob-F.Unspec = None
items_in (Blob-F.Array items) = Some items
items_in (Blob-F.Table attrs) = None
items_in (Blob-F.Str text) = None
items_in (Blob-F.I64 n) = None
items_in (Blob-F.I32 n) = None
items_in (Blob-F.I16 n) = None
items_in (Blob-F.I8 n) = None

abbrev pub array_of : Blob → Option (List Attr)
array_of value = items_in (out-Blob value)

-- the values of a value that is a table
abbrev pub values_in : Blob-F Blob Attr → Option (List Attr)
values_in Blob-F.Unspec = None
values_in (Blob-F.Array items) = None
values_in (Blob-F.Table attrs) = Some attrs
values_in (Blob-F.Str text) = None
values_in (Blob-F.I64 n) = None
values_in (Blob-F.I32 n) = None
values_in (Blob-F.I16 n) = None
values_in (Blob-F.I8 n) = None

abbrev pub table_of : Blob → Option (List Attr)
table_of value = values_in (out-Blob value)

-- the values of an argument, where it is there and a table
abbrev pub needed_table : Option Blob → Option (List Attr)
needed_table None = None
needed_table (Some value) = table_of value

-- the items of an argument, where it is there and an array
abbrev pub needed_array : Option Blob → Option (List Attr)
needed_array None = None
needed_array (Some value) = array_of value

-- the text of an argument, where it is there and a text
abbrev pub needed_text : Option Blob → Option (List ℕ)
needed_text None = None
needed_text (Some value) = text_of value

-- the text of an argument, or another one where it is not there
abbrev pub text_or : List ℕ → Option Blob → Option (List ℕ)
text_or other None = Some other
text_or other (Some value) = text_of value

-- the scope: `ubus` where it is not there
abbrev pub scope_in : List Attr → Option (List ℕ)
scope_in args = text_or (codes "ubus") (argument (codes "scope") args)

-- seconds: a number from 0 on, of 32 bits
abbrev pub seconds : ℤ → Option ℕ
seconds (pos n) = if nat_lt n (2 ^ 32) then Some n else None
seconds (negsuc n) = None

-- the seconds of a value that is a number of at least two bytes
abbrev pub seconds_in : Blob-F Blob Attr → Option ℕ
seconds_in Blob-F.Unspec = None
seconds_in (Blob-F.Array items) = None
seconds_in (Blob-F.Table attrs) = None
seconds_in (Blob-F.Str text) = None
seconds_in (Blob-F.I64 n) = seconds n
seconds_in (Blob-F.I32 n) = seconds n
seconds_in (Blob-F.I16 n) = seconds n
seconds_in (Blob-F.I8 n) = None

abbrev pub seconds_of : Blob → Option ℕ
seconds_of value = seconds_in (out-Blob value)

-- the timeout: 300 seconds where it is not there
abbrev pub timeout_or_usual : Option Blob → Option ℕ
timeout_or_usual None = Some 300
timeout_or_usual (Some value) = seconds_of value

abbrev pub timeout_in : List Attr → Option ℕ
timeout_in args = timeout_or_usual (argument (codes "timeout") args)

-- the number that bytes are, the highest first
abbrev pub number_in : Result (List ℕ) FromHexError → Option ℕ
number_in (Ok bytes) = Some (from_be_bytes w128 bytes)
number_in (Err error) = None

-- an id as 32 hexadecimal digits of either case
abbrev pub id_of : List ℕ → Option ℕ
id_of text = number_in (decode_sized text 16)

abbrev pub id_spelled : Option (List ℕ) → Option ℕ
id_spelled None = None
id_spelled (Some text) = id_of text

-- the id of the session that the arguments name
abbrev pub id_in : List Attr → Option ℕ
id_in args = id_spelled (needed_text (argument (codes "ubus_rpc_session") args))

-- an id as 32 hexadecimal digits, the letters in lower case
abbrev pub id_text : ℕ → List ℕ
id_text id = encode_lower (to_be_bytes w128 id)
