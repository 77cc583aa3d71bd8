-- The arguments of a call, as a line of a script gives them.
use Rattle.std.specs.Prelude.{ℕ, List, [], ◌∷◌, ◌++◌, Option, Some, None, Result, Ok, Err, codes, if◌then◌else◌, ◌≡◌}
use Rattle.std.specs.Prelude.{refl}
use Rattle.std.specs.Str.{is_utf8}
use Rattle.serde_json.specs.Data.{Data, array, no_items}
use Rattle.serde_json.specs.Read.{read}
use Rattle.blob_codec.specs.declared.blob.Attr.{Attr}
use Rattle.blob_codec.specs.declared.blob.Blob.TheVariants.{Str}
use Rattle.blob_json.specs.declared.json_error.JsonError.{JsonError}
use Rattle.blob_json.specs.declared.json_error.JsonError.TheVariants as fault
use Rattle.blob_json.specs.FromJson.{attrs_of}
use Rattle.rpc_session.specs.Arguments.{id_text}
use Rattle.script_lines.specs.declared.line_error.LineError.{LineError}
use Rattle.script_lines.specs.declared.line_error.LineError.TheVariants as error

-- the JSON value that a text is, if it is one (RFC 8259)
abbrev pub json_of : List ℕ → Option Data
json_of text = if is_utf8 text then read text else None

-- a fault of a value, as a line tells it
abbrev pub line_error : JsonError → LineError
line_error (fault.Fraction path) = error.Fraction
line_error (fault.Wide path) = error.Wide
line_error (fault.Deep path) = error.Deep
line_error fault.NotTable = error.NotTable
line_error fault.Memory = error.Memory

abbrev pub or_fault : Result (List Attr) JsonError → Result (List Attr) LineError
or_fault (Ok args) = Ok args
or_fault (Err why) = Err (line_error why)

-- the arguments that a value is
abbrev pub table_of : Data → Result (List Attr) LineError
table_of value = or_fault (attrs_of value)

abbrev pub arguments_by : ℕ → Option Data → Result (List Attr) LineError
arguments_by number None = Err (error.BadLine number)
arguments_by number (Some value) = table_of value

-- the arguments that a text is, in a line at this number; a text that is no JSON is in no row of the table of lines
abbrev pub arguments_of : ℕ → List ℕ → Result (List Attr) LineError
arguments_of number text = arguments_by number (json_of text)

-- an array is no table
of_array : arguments_by 7 (Some (array no_items)) ≡ Err error.NotTable
of_array = refl

-- this session behind the others: of equal names the last counts
abbrev pub with_session : ℕ → List Attr → List Attr
with_session session args =
    args ++ record { name = codes "ubus_rpc_session"; value = Str (id_text session) } ∷ []
