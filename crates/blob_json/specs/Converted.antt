-- What is converted so far.
use Rattle.std.specs.Prelude.{List, ◌++◌, Result, Ok, Err}
use Rattle.blob_codec.specs.declared.blob.Attr.{Attr}
use Rattle.blob_json.specs.declared.json_error.JsonError.{JsonError}

-- the others behind these, or their fault
abbrev pub behind : List Attr → Result (List Attr) JsonError → Result (List Attr) JsonError
behind attrs (Ok others) = Ok (attrs ++ others)
behind attrs (Err error) = Err error
