-- JSON values of texts and numbers.
use Rattle.std.specs.Prelude.{ℕ, List, map, Option, Some, None}
use Rattle.serde_json.specs.Data.{Data, null, number, unsigned, string, array}
use Rattle.serde_json.specs.View.{items_of}
use Rattle.blob_codec.specs.AsText.{json_text_of}

-- bytes as they are where they are UTF-8, otherwise each as the character of that number
abbrev pub text : List ℕ → Data
text bytes = string (json_text_of bytes)

abbrev pub text_or_null : Option (List ℕ) → Data
text_or_null None = null
text_or_null (Some bytes) = text bytes

abbrev pub list : List Data → Data
list items = array (items_of items)

abbrev pub whole : ℕ → Data
whole n = number (unsigned n)
