-- The line that tells of a reply.
use Rattle.std.specs.Prelude.{ℕ, List, [], ◌∷◌, ◌++◌, Option, Some, None, codes, decimal, ◌≡◌, refl}
use Rattle.serde_json.specs.Written.{compact_text}
use Rattle.blob_codec.specs.declared.blob.Attr.{Attr}
use Rattle.blob_json.specs.ToJson.{json_of}

-- attributes as JSON, behind a space
abbrev pub json_text : List Attr → List ℕ
json_text attrs = 32 ∷ compact_text (json_of attrs)

abbrev pub payload_text : Option (List Attr) → List ℕ
payload_text None = []
payload_text (Some attrs) = json_text attrs

-- `reply`, the status, and the payload where there is one
abbrev pub reply_line : ℕ → Option (List Attr) → List ℕ
reply_line status payload = codes "reply " ++ (decimal status ++ (payload_text payload ++ codes "\n"))

-- a method that has nothing to tell, and one that is not there
nothing_told : reply_line 0 (Some []) ≡ codes "reply " ++ (decimal 0 ++ codes " {}\n")
nothing_told = refl

no_method : reply_line 3 None ≡ codes "reply " ++ (decimal 3 ++ codes "\n")
no_method = refl
