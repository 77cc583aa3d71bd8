-- Which bytes spell a list of attributes, whatever their padding holds (libubox's blobmsg).
use Rattle.std.specs.Prelude.{ℕ, suc, ◌≡◌, List, [], ◌∷◌, length, IsTrue}
use Rattle.std.specs.Int.{w8, w16, w32, w64, from_be_bytes, cast_signed}
use Rattle.blob_codec.specs.declared.blob.TheConstants.{MOST_LEVELS}
use Rattle.blob_codec.specs.declared.blob.Blob.{Blob}
use Rattle.blob_codec.specs.declared.blob.Blob.TheVariants.{Unspec, Array, Table, Str, I64, I32, I16, I8}
use Rattle.blob_codec.specs.declared.blob.Attr.{Attr}
use Rattle.blob_codec.specs.Attribute.{IsWhole, is_terminated, without_last, type_in, value_in, name_in, behind}

-- Bytes of this type that hold no attributes are this value. Numbers are signed, their highest byte
-- first.
pub data IsLeaf (type : ℕ) (bytes : List ℕ) (value : Blob) : Type 0 where
  nothing : type ≡ 0 → length bytes ≡ 0 → value ≡ Unspec → IsLeaf type bytes value
  string : type ≡ 3 → IsTrue (is_terminated bytes) → value ≡ Str (without_last bytes)
      → IsLeaf type bytes value
  int64 : type ≡ 4 → length bytes ≡ 8 → value ≡ I64 (cast_signed w64 (from_be_bytes w64 bytes))
      → IsLeaf type bytes value
  int32 : type ≡ 5 → length bytes ≡ 4 → value ≡ I32 (cast_signed w32 (from_be_bytes w32 bytes))
      → IsLeaf type bytes value
  int16 : type ≡ 6 → length bytes ≡ 2 → value ≡ I16 (cast_signed w16 (from_be_bytes w16 bytes))
      → IsLeaf type bytes value
  int8 : type ≡ 7 → length bytes ≡ 1 → value ≡ I8 (cast_signed w8 (from_be_bytes w8 bytes))
      → IsLeaf type bytes value

-- attributes under this type are this value
pub data IsNested (type : ℕ) (attrs : List Attr) (value : Blob) : Type 0 where
  array : type ≡ 1 → value ≡ Array attrs → IsNested type attrs value
  table : type ≡ 2 → value ≡ Table attrs → IsNested type attrs value

mutual
  -- The bytes spell the attributes, where at most so many arrays and tables stand within one
  -- another: nothing is there, or a whole attribute is in front, its value is spelled, and what is
  -- behind it spells the others.
  pub data Spells : ℕ → List ℕ → List Attr → Type 0 where
    none : (levels : ℕ) (bytes : List ℕ) (attrs : List Attr)
        → length bytes ≡ 0 → attrs ≡ [] → Spells levels bytes attrs
    attribute : (levels : ℕ) (bytes : List ℕ) (value : Blob) (others attrs : List Attr)
        → IsWhole bytes → SpellsValue levels (type_in bytes) (value_in bytes) value
        → Spells levels (behind bytes) others
        → attrs ≡ record { name = name_in bytes; value = value } ∷ others
        → Spells levels bytes attrs

  -- bytes of this type spell the value: it holds no attributes, or it holds those that the bytes
  -- spell, one level deeper
  pub data SpellsValue : ℕ → ℕ → List ℕ → Blob → Type 0 where
    leaf : (levels type : ℕ) (bytes : List ℕ) (value : Blob) → IsLeaf type bytes value
        → SpellsValue levels type bytes value
    nested : (levels fewer type : ℕ) (bytes : List ℕ) (inner : List Attr) (value : Blob)
        → levels ≡ suc fewer → Spells fewer bytes inner → IsNested type inner value
        → SpellsValue levels type bytes value

-- the bytes are a blob of these attributes
abbrev pub SpellsBlob : List ℕ → List Attr → Type 0
SpellsBlob bytes attrs = Spells MOST_LEVELS bytes attrs
