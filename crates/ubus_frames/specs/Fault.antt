-- The first fault of bytes that begin with no frame.
use Rattle.std.specs.Prelude.{ℕ, ◌+◌, ◌≡◌, ◌≢◌, ◌<◌, ◌≤◌, List, length, Some, false}
use Rattle.blob_codec.specs.declared.blob_error.BlobError.{BlobError}
use Rattle.blob_codec.specs.declared.blob_error.BlobError.TheVariants.{Short, BadLength, BadType, Double, NoNul, Deep}
use Rattle.blob_codec.specs.declared.blob_error.BlobError.TheVariants.{Memory}
use Rattle.blob_codec.specs.Attribute.{padded, flag_in, type_in, length_in, behind, is_terminated}
use Rattle.blob_codec.specs.Fault.{IsBlobFault, first_held}
use Rattle.ubus_frames.specs.declared.frame.TheConstants.{MOST_BLOB}
use Rattle.ubus_frames.specs.declared.frame.Frame.{Frame}
use Rattle.ubus_frames.specs.declared.frame_error.FrameError.{FrameError}
use Rattle.ubus_frames.specs.declared.frame_error.FrameError.TheVariants.{Version, TooLong, BadBlob}
use Rattle.ubus_frames.specs.declared.value.Kind.{Kind}
use Rattle.ubus_frames.specs.declared.value.Kind.TheVariants.{OneNumber, OneText, AttrList, OneByte, NumberList}
use Rattle.ubus_frames.specs.Field.{IsWhole, data_in, word_tests}
use Rattle.ubus_frames.specs.Frame.{HasHead, IsPlainBlob, version_in, blob_length_in, fields_in}
use Rattle.ubus_frames.specs.Layout.{Changes, kind_of_word}
use Rattle.ubus_frames.specs.Numbers.{IsNumbersFault}

-- the same fault of bytes that stand so many places later
abbrev pub moved : ℕ → BlobError → BlobError
moved by (Short at) = Short (by + at)
moved by (BadLength at) = BadLength (by + at)
moved by (BadType at) = BadType (by + at)
moved by (Double at) = Double (by + at)
moved by (NoNul at) = NoNul (by + at)
moved by (Deep at) = Deep (by + at)
moved by Memory = Memory

-- the place that a fault tells
abbrev pub place_of : BlobError → ℕ
place_of (Short at) = at
place_of (BadLength at) = at
place_of (BadType at) = at
place_of (Double at) = at
place_of (NoNul at) = at
place_of (Deep at) = at
place_of Memory = 0

-- the first fault of a blob whose bytes begin at this place
pub data IsMovedFault (place : ℕ) (bytes : List ℕ) (error : BlobError) : Type 0 where
  moved_fault : (inner : BlobError) → IsBlobFault bytes inner → error ≡ moved place inner
      → IsMovedFault place bytes error

-- The fault of a value of this kind, whose attribute has this place: a number or a byte of another
-- size, a text without a zero byte at its end alone, or the first fault inside attributes or
-- numbers.
pub data IsValueFault (place : ℕ) (kind : Kind) (bytes : List ℕ) (error : BlobError) : Type 0 where
  number : kind ≡ OneNumber → length bytes ≢ 4 → error ≡ BadLength place
      → IsValueFault place kind bytes error
  text : kind ≡ OneText → is_terminated bytes ≡ false → error ≡ NoNul place
      → IsValueFault place kind bytes error
  attrs : kind ≡ AttrList → IsMovedFault (place + 4) bytes error
      → IsValueFault place kind bytes error
  byte : kind ≡ OneByte → length bytes ≢ 1 → error ≡ BadLength place
      → IsValueFault place kind bytes error
  numbers : kind ≡ NumberList → IsNumbersFault (place + 4) bytes error
      → IsValueFault place kind bytes error

-- an attribute with this flag, id and data is known, and its value has this fault
pub data IsKnownFault (place flag id : ℕ) (bytes : List ℕ) (error : BlobError) : Type 0 where
  known_fault : (kind : Kind) → kind_of_word flag id ≡ Some kind
      → IsValueFault place kind bytes error → IsKnownFault place flag id bytes error

-- The first fault of attributes at this place: that of the word in front, or of the value in front,
-- or, where the attribute in front has none, that of the others.
pub data IsFieldsFault : ℕ → List ℕ → BlobError → Type 0 where
  word : (place : ℕ) (bytes : List ℕ) (error : BlobError) → 0 < length bytes
      → first_held (word_tests place bytes) ≡ Some error → IsFieldsFault place bytes error
  value : (place : ℕ) (bytes : List ℕ) (error : BlobError) → IsWhole bytes
      → IsKnownFault place (flag_in bytes) (type_in bytes) (data_in bytes) error
      → IsFieldsFault place bytes error
  later : (place : ℕ) (bytes : List ℕ) (error : BlobError) (before after : Frame)
      → Changes bytes before after
      → IsFieldsFault (place + padded (length_in bytes)) (behind bytes) error
      → IsFieldsFault place bytes error

-- the fault of the blob's word: it is too long, or does not hold its word, or has a flag or another
-- id than 0
pub data IsWordFault (bytes : List ℕ) (error : FrameError) : Type 0 where
  too_long : MOST_BLOB < blob_length_in bytes → error ≡ TooLong (blob_length_in bytes)
      → IsWordFault bytes error
  bad_length : blob_length_in bytes < 4 → error ≡ BadBlob (BadLength 8) → IsWordFault bytes error
  bad_type : 4 ≤ blob_length_in bytes → blob_length_in bytes ≤ MOST_BLOB
      → (IsPlainBlob bytes → ⊥) → error ≡ BadBlob (BadType 8) → IsWordFault bytes error

-- the fault of the head in front: the version, as soon as its byte is there, or the blob's word, as
-- soon as twelve bytes are
pub data IsHeadFault (bytes : List ℕ) (error : FrameError) : Type 0 where
  version : 0 < length bytes → version_in bytes ≢ 0 → error ≡ Version (version_in bytes)
      → IsHeadFault bytes error
  word : 12 ≤ length bytes → version_in bytes ≡ 0 → IsWordFault bytes error
      → IsHeadFault bytes error

-- the fault in front: that of the head, or once the blob is there, that of the attributes
pub data IsFrameFault (bytes : List ℕ) (error : FrameError) : Type 0 where
  head : IsHeadFault bytes error → IsFrameFault bytes error
  fields : (inner : BlobError) → HasHead bytes → 8 + blob_length_in bytes ≤ length bytes
      → IsFieldsFault 12 (fields_in bytes) inner → error ≡ BadBlob inner
      → IsFrameFault bytes error
