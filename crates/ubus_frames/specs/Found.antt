-- What the reader has found.
use Rattle.std.specs.Prelude.{ℕ, ◌+◌, ◌≡◌, ◌<◌, ◌≤◌, ◌^◌, List, ◌++◌, length}
use Rattle.std.specs.Int.{w32, from_be_bytes}
use Rattle.blob_codec.specs.declared.blob_error.BlobError.{BlobError}
use Rattle.blob_codec.specs.Attribute.{padded, flag_in, type_in, length_in, behind}
use Rattle.ubus_frames.specs.declared.field.Word.{Word}
use Rattle.ubus_frames.specs.declared.field.Parts.{Parts}
use Rattle.ubus_frames.specs.declared.numbers.Front.{Front}
use Rattle.ubus_frames.specs.declared.frame.Frame.{Frame}
use Rattle.ubus_frames.specs.Fault.{IsFieldsFault}
use Rattle.ubus_frames.specs.Field.{IsWhole, data_in}
use Rattle.ubus_frames.specs.Layout.{MakesOf}
use Rattle.ubus_frames.specs.Numbers.{IsNumber, SpellsNumbers, IsNumbersFault}

-- the word in front, taken apart
pub record IsWord (bytes : List ℕ) (word : Word) : Type 0 where
  pub there : 4 ≤ length bytes
  pub flag_is : word.flag ≡ flag_in bytes
  pub id_is : word.id ≡ type_in bytes
  pub length_is : word.length ≡ length_in bytes

-- the parts of the attribute in front
pub record HasParts (bytes : List ℕ) (parts : Parts) : Type 0 where
  pub whole : IsWhole bytes
  pub flag_is : parts.flag ≡ flag_in bytes
  pub id_is : parts.id ≡ type_in bytes
  pub data_is : parts.«data».now ≡ data_in bytes
  pub size_is : parts.size ≡ padded (length_in bytes)
  pub behind_is : parts.behind.now ≡ behind bytes

-- the number in front, and what is behind it
pub record HasNumber (bytes : List ℕ) (front : Front) : Type 0 where
  pub is : IsNumber bytes
  pub number_is : front.number ≡ from_be_bytes w32 (data_in bytes)
  pub size_is : front.size ≡ padded (length_in bytes)
  pub behind_is : front.behind.now ≡ behind bytes

-- the numbers are spelled in front of a rest at `at`: whatever it spells follows them, and its fault
-- is that of the whole
pub record NumbersSoFar (place at : ℕ) (bytes rest numbers : List ℕ) : Type 0 where
  pub room : at + length rest < 2 ^ 64
  pub sound : (others : List ℕ) → SpellsNumbers rest others
      → SpellsNumbers bytes (numbers ++ others)
  pub bad : (error : BlobError) → IsNumbersFault at rest error → IsNumbersFault place bytes error

-- the attributes in front of a rest at `at` make the frame `now` of `start`: what the rest makes of
-- it the whole makes of the start, and the fault of the rest is that of the whole
pub record FieldsSoFar (place at : ℕ) (bytes rest : List ℕ) (start now : Frame) : Type 0 where
  pub room : at + length rest < 2 ^ 64
  pub sound : (after : Frame) → MakesOf rest now after → MakesOf bytes start after
  pub bad : (error : BlobError) → IsFieldsFault at rest error → IsFieldsFault place bytes error
