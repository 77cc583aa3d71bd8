-- One more part of a value was converted.
use Rattle.std.proofs.Common.{ℕ, ◌≡◌, List, [], ◌∷◌, ◌++◌, Result, Ok, Err, refl, sym, ap, ◌∙◌, append_assoc}
use Rattle.blob_codec.specs.declared.blob.Blob.{Blob}
use Rattle.blob_codec.specs.declared.blob.Attr.{Attr}
use Rattle.blob_json.specs.declared.json_error.JsonError.{JsonError}
use Rattle.blob_json.specs.FromJson.{in_front}
use Rattle.blob_json.specs.Converted.{behind}

one_more : (attrs : List Attr) (part title : List ℕ) (value : Blob) (r : Result (List Attr) JsonError)
    → behind attrs (in_front part title (Ok value) r) ≡ behind (attrs ++ record { name = title; value = value } ∷ []) r
one_more attrs part title value (Ok others) = ap Ok (sym (append_assoc attrs (record { name = title; value = value } ∷ []) others))
one_more attrs part title value (Err error) = refl

pub goes_on : (whole : Result (List Attr) JsonError) (attrs pushed : List Attr) (part title : List ℕ) (found : Result Blob JsonError) (value : Blob) (r : Result (List Attr) JsonError)
    → whole ≡ behind attrs (in_front part title found r) → found ≡ Ok value → pushed ≡ attrs ++ record { name = title; value = value } ∷ [] → whole ≡ behind pushed r
goes_on whole attrs pushed part title found value r w f p =
    w ∙ (ap (λ x. behind attrs (in_front part title x r)) f ∙ (one_more attrs part title value r ∙ ap (λ x. behind x r) (sym p)))
