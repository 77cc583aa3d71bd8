-- Single arguments of a call, by name. Of equal names the last counts.
use Rattle.std.specs.Prelude.{ℕ, ℤ, pos, negsuc, List, Bool, Option, Some, None}
use Rattle.std.specs.Option.{option_and_then}
use Rattle.blob_codec.specs.declared.blob.Blob.{Blob}
use Rattle.blob_codec.specs.declared.blob.Blob.TheOpen.{Blob-F}
use Rattle.blob_codec.specs.declared.blob.Blob.TheViews.{out-Blob}
use Rattle.blob_codec.specs.declared.blob.Attr.{Attr}
use Rattle.blob_json.specs.ToJson.{is_truth}
use Rattle.rpc_session.specs.Arguments.{argument, needed_text}

-- a number from 0 on
abbrev pub natural : ℤ → Option ℕ
natural (pos n) = Some n
natural (negsuc n) = None

-- the number from 0 on that a value of at least two bytes is
abbrev pub whole_in : Blob-F Blob Attr → Option ℕ
whole_in Blob-F.Unspec = None
whole_in (Blob-F.Array items) = None
whole_in (Blob-F.Table attrs) = None
whole_in (Blob-F.Str text) = None
whole_in (Blob-F.I64 n) = natural n
whole_in (Blob-F.I32 n) = natural n
whole_in (Blob-F.I16 n) = natural n
whole_in (Blob-F.I8 n) = None

abbrev pub whole_of : Blob → Option ℕ
whole_of value = whole_in (out-Blob value)

-- the truth value that a byte is
abbrev pub truth_in : Blob-F Blob Attr → Option Bool
truth_in Blob-F.Unspec = None
truth_in (Blob-F.Array items) = None
truth_in (Blob-F.Table attrs) = None
truth_in (Blob-F.Str text) = None
truth_in (Blob-F.I64 n) = None
truth_in (Blob-F.I32 n) = None
truth_in (Blob-F.I16 n) = None
truth_in (Blob-F.I8 n) = Some (is_truth n)

abbrev pub truth_of : Blob → Option Bool
truth_of value = truth_in (out-Blob value)

-- the text of an argument, where it is there and a text
abbrev pub text : List ℕ → List Attr → Option (List ℕ)
text name args = needed_text (argument name args)

-- its number, where it is there and a number
abbrev pub number : List ℕ → List Attr → Option ℕ
number name args = option_and_then whole_of (argument name args)

-- its truth value, where it is there and one
abbrev pub truth : List ℕ → List Attr → Option Bool
truth name args = option_and_then truth_of (argument name args)

-- the truth value that a value is, or this one where there is none
abbrev pub truth_by : Bool → Option Blob → Option Bool
truth_by usual None = Some usual
truth_by usual (Some value) = truth_of value

abbrev pub truth_or : Bool → List ℕ → List Attr → Option Bool
truth_or usual name args = truth_by usual (argument name args)
