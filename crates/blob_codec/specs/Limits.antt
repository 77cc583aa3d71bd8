-- Which attributes have a spelling.
use Rattle.std.specs.Prelude.{ℕ, suc, ◌≡◌, ◌<◌, ◌^◌, ℤ, List, [], ◌∷◌, length, position, None, FitsSigned}
use Rattle.std.specs.Int.{w8, w16, w32, w64}
use Rattle.lanes_scan.specs.ByteTest.{is_nul}
use Rattle.blob_codec.specs.declared.blob.TheConstants.{MOST_LEVELS}
use Rattle.blob_codec.specs.declared.blob.Blob.{Blob}
use Rattle.blob_codec.specs.declared.blob.Blob.TheVariants.{Unspec, Array, Table, Str, I64, I32, I16, I8}
use Rattle.blob_codec.specs.declared.blob.Attr.{Attr}
use Rattle.blob_codec.specs.Written.{Body, body_of, size_of}

-- no byte is zero
abbrev pub HasNoNul : List ℕ → Type 0
HasNoNul bytes = position is_nul bytes ≡ None

-- the name has no zero byte and a length of two bytes, and the attribute a length of 24 bits
pub record IsSized (attr : Attr) : Type 0 where
  pub name_plain : HasNoNul attr.name
  pub name_length : length attr.name < 2 ^ 16
  pub size : size_of attr.name (body_of attr.value).bytes < 2 ^ 24

-- the value holds no attributes; a string has no zero byte, a number those of its type's range
pub data IsPlain (value : Blob) : Type 0 where
  nothing : value ≡ Unspec → IsPlain value
  string : (text : List ℕ) → value ≡ Str text → HasNoNul text → IsPlain value
  int64 : (n : ℤ) → value ≡ I64 n → FitsSigned w64 n → IsPlain value
  int32 : (n : ℤ) → value ≡ I32 n → FitsSigned w32 n → IsPlain value
  int16 : (n : ℤ) → value ≡ I16 n → FitsSigned w16 n → IsPlain value
  int8 : (n : ℤ) → value ≡ I8 n → FitsSigned w8 n → IsPlain value

-- the value holds these attributes
pub data Holds (value : Blob) (attrs : List Attr) : Type 0 where
  array : value ≡ Array attrs → Holds value attrs
  table : value ≡ Table attrs → Holds value attrs

mutual
  -- each attribute has a size that fits, and a value that does, where at most so many arrays and
  -- tables stand within one another
  pub data Fits : ℕ → List Attr → Type 0 where
    none : (levels : ℕ) (attrs : List Attr) → attrs ≡ [] → Fits levels attrs
    attribute : (levels : ℕ) (attr : Attr) (others attrs : List Attr) → attrs ≡ attr ∷ others
        → IsSized attr → FitsValue levels attr.value → Fits levels others → Fits levels attrs

  -- it holds no attributes, or those that fit one level deeper
  pub data FitsValue : ℕ → Blob → Type 0 where
    plain : (levels : ℕ) (value : Blob) → IsPlain value → FitsValue levels value
    nested : (levels fewer : ℕ) (inner : List Attr) (value : Blob) → levels ≡ suc fewer
        → Holds value inner → Fits fewer inner → FitsValue levels value

-- the attributes have a spelling
abbrev pub FitsBlob : List Attr → Type 0
FitsBlob attrs = Fits MOST_LEVELS attrs
