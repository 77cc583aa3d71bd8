-- Numbers one after another: attributes with the id 0 and no flag, of four bytes each.
use Rattle.std.specs.Prelude.{ℕ, ◌+◌, ◌≡◌, ◌≢◌, ◌<◌, List, [], ◌∷◌, length, Some}
use Rattle.std.specs.Int.{w32, from_be_bytes}
use Rattle.blob_codec.specs.declared.blob_error.BlobError.{BlobError}
use Rattle.blob_codec.specs.declared.blob_error.BlobError.TheVariants.{BadLength, BadType}
use Rattle.blob_codec.specs.Attribute.{padded, flag_in, type_in, length_in, behind}
use Rattle.blob_codec.specs.Fault.{first_held}
use Rattle.ubus_frames.specs.Field.{IsWhole, data_in, word_tests}

-- the attribute in front is whole and a number
pub record IsNumber (bytes : List ℕ) : Type 0 where
  pub whole : IsWhole bytes
  pub flag : flag_in bytes ≡ 0
  pub id : type_in bytes ≡ 0
  pub size : length (data_in bytes) ≡ 4

-- the bytes spell the numbers
pub data SpellsNumbers : List ℕ → List ℕ → Type 0 where
  none : (bytes numbers : List ℕ) → length bytes ≡ 0 → numbers ≡ []
      → SpellsNumbers bytes numbers
  number : (bytes others numbers : List ℕ) → IsNumber bytes → SpellsNumbers (behind bytes) others
      → numbers ≡ from_be_bytes w32 (data_in bytes) ∷ others → SpellsNumbers bytes numbers

-- The fault of the number in front: that of its word, else a flag or another id, else another size.
pub data IsNumberFault (place : ℕ) (bytes : List ℕ) (error : BlobError) : Type 0 where
  word : first_held (word_tests place bytes) ≡ Some error → IsNumberFault place bytes error
  flag : IsWhole bytes → flag_in bytes ≢ 0 → error ≡ BadType place
      → IsNumberFault place bytes error
  id : IsWhole bytes → flag_in bytes ≡ 0 → type_in bytes ≢ 0 → error ≡ BadType place
      → IsNumberFault place bytes error
  size : IsWhole bytes → flag_in bytes ≡ 0 → type_in bytes ≡ 0 → length (data_in bytes) ≢ 4
      → error ≡ BadLength place → IsNumberFault place bytes error

-- the first fault of bytes at this place that spell no numbers
pub data IsNumbersFault : ℕ → List ℕ → BlobError → Type 0 where
  front : (place : ℕ) (bytes : List ℕ) (error : BlobError) → 0 < length bytes
      → IsNumberFault place bytes error → IsNumbersFault place bytes error
  later : (place : ℕ) (bytes : List ℕ) (error : BlobError) → IsNumber bytes
      → IsNumbersFault (place + padded (length_in bytes)) (behind bytes) error
      → IsNumbersFault place bytes error
