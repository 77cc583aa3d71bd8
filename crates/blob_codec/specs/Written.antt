-- The one spelling of attributes whose padding is zero (libubox's blobmsg).
use Rattle.std.specs.Prelude.{ℕ, ◌+◌, ◌-◌, ◌*◌, ◌^◌, List, [], ◌∷◌, ◌++◌, length, map, replicate}
use Rattle.std.specs.Int.{w8, w16, w32, w64, to_be_bytes, cast_unsigned}
use Rattle.std.specs.List.{concat}
use Rattle.blob_codec.specs.declared.blob.Blob.{Blob, fold-Blob}
use Rattle.blob_codec.specs.declared.blob.Blob.TheOpen.{Blob-F, Attr-F}
use Rattle.blob_codec.specs.declared.blob.Attr.{Attr}
use Rattle.blob_codec.specs.Attribute.{padded}

-- the type of a value, and its bytes
pub record Body : Type 0 where
  pub type : ℕ
  pub bytes : List ℕ

-- zeros up to the next multiple of 4
unfoldable pub padding : ℕ → List ℕ
padding size = replicate (padded size - size) 0

-- the word of an attribute with a name: a set bit, the type, the length
unfoldable pub word_of : ℕ → ℕ → List ℕ
word_of type size = to_be_bytes w32 (2 ^ 31 + type * 2 ^ 24 + size)

-- a name behind its length and in front of a zero byte, padded
unfoldable pub name_field : List ℕ → List ℕ
name_field name = to_be_bytes w16 (length name) ++ (name ++ (0 ∷ padding (length name + 3)))

-- how long an attribute is without its padding
unfoldable pub size_of : List ℕ → List ℕ → ℕ
size_of name bytes = 4 + length (name_field name) + length bytes

-- an attribute with its padding: its word, its name, its value
unfoldable pub attribute_bytes : List ℕ → Body → List ℕ
attribute_bytes name body =
    word_of body.type (size_of name body.bytes)
    ++ (name_field name ++ (body.bytes ++ padding (size_of name body.bytes)))

-- one level, with the bytes of each attribute inside; numbers have their highest byte first
abbrev pub body_step : Blob-F Body (List ℕ) → Body
body_step Blob-F.Unspec = record { type = 0; bytes = [] }
body_step (Blob-F.Array attrs) = record { type = 1; bytes = concat attrs }
body_step (Blob-F.Table attrs) = record { type = 2; bytes = concat attrs }
body_step (Blob-F.Str text) = record { type = 3; bytes = text ++ 0 ∷ [] }
body_step (Blob-F.I64 n) = record { type = 4; bytes = to_be_bytes w64 (cast_unsigned w64 n) }
body_step (Blob-F.I32 n) = record { type = 5; bytes = to_be_bytes w32 (cast_unsigned w32 n) }
body_step (Blob-F.I16 n) = record { type = 6; bytes = to_be_bytes w16 (cast_unsigned w16 n) }
body_step (Blob-F.I8 n) = record { type = 7; bytes = to_be_bytes w8 (cast_unsigned w8 n) }

abbrev pub attr_step : Attr-F Body (List ℕ) → List ℕ
attr_step attr = attribute_bytes attr.name attr.value

-- the type and the bytes of a value
abbrev pub body_of : Blob → Body
body_of = fold-Blob Body (List ℕ) body_step attr_step

-- an attribute with its padding
abbrev pub written_attr : Attr → List ℕ
written_attr attr = attribute_bytes attr.name (body_of attr.value)

-- attributes one after another
abbrev pub written : List Attr → List ℕ
written attrs = concat (map written_attr attrs)
