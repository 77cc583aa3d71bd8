-- Which frames fit, as a test.
use Rattle.std.specs.Prelude.{ℕ, zero, suc, ◌≡◌, ◌+◌, ◌^◌, ℤ, pos, negsuc, List, length, Bool, true, false, ◌&&◌}
use Rattle.std.specs.Prelude.{Option, Some, None, is_none, nat_lt, nat_le, position}
use Rattle.std.specs.List.{list_all}
use Rattle.lanes_scan.specs.ByteTest.{is_nul}
use Rattle.blob_codec.specs.declared.blob.TheConstants.{MOST_LEVELS}
use Rattle.blob_codec.specs.declared.blob.Blob.{Blob}
use Rattle.blob_codec.specs.declared.blob.Blob.TheOpen.{Blob-F}
use Rattle.blob_codec.specs.declared.blob.Blob.TheViews.{out-Blob}
use Rattle.blob_codec.specs.declared.blob.Attr.{Attr}
use Rattle.blob_codec.specs.Written.{body_of, size_of}
use Rattle.ubus_frames.specs.declared.frame.TheConstants.{MOST_BLOB}
use Rattle.ubus_frames.specs.declared.frame.Frame.{Frame}
use Rattle.ubus_frames.specs.Written.{FitsFrame, written_fields}

-- no byte is zero
abbrev pub is_plain_text : List ℕ → Bool
is_plain_text bytes = is_none (position is_nul bytes)

-- the name has no zero byte and a length of two bytes, and the attribute a length of 24 bits
abbrev pub is_sized : Attr → Bool
is_sized attr =
    is_plain_text attr.name && (nat_lt (length attr.name) (2 ^ 16)
    && nat_lt (size_of attr.name (body_of attr.value).bytes) (2 ^ 24))

-- a number in two's complement, of one bit more
abbrev pub has_bits : ℕ → ℤ → Bool
has_bits bits (pos n) = nat_lt n (2 ^ bits)
has_bits bits (negsuc n) = nat_lt n (2 ^ bits)

-- the value fits; a test tells of the attributes that it holds
abbrev pub layer_fits : (List Attr → Bool) → Blob-F Blob Attr → Bool
layer_fits deeper Blob-F.Unspec = true
layer_fits deeper (Blob-F.Array attrs) = deeper attrs
layer_fits deeper (Blob-F.Table attrs) = deeper attrs
layer_fits deeper (Blob-F.Str text) = is_plain_text text
layer_fits deeper (Blob-F.I64 n) = has_bits 63 n
layer_fits deeper (Blob-F.I32 n) = has_bits 31 n
layer_fits deeper (Blob-F.I16 n) = has_bits 15 n
layer_fits deeper (Blob-F.I8 n) = has_bits 7 n

abbrev pub attr_fits : (List Attr → Bool) → Attr → Bool
attr_fits deeper attr = is_sized attr && layer_fits deeper (out-Blob attr.value)

-- the attributes fit one level deeper, where at most so many arrays and tables stand within one another
abbrev pub deeper_fit : ℕ → List Attr → Bool
deeper_fit zero attrs = false
deeper_fit (suc fewer) attrs = list_all (attr_fits (deeper_fit fewer)) attrs

-- the attributes have a spelling
unfoldable pub attrs_fit : List Attr → Bool
attrs_fit attrs = list_all (attr_fits (deeper_fit MOST_LEVELS)) attrs

-- what holds of a value where there is one
abbrev pub if_there : {T : Type 0} → (T → Bool) → Option T → Bool
if_there p None = true
if_there p (Some value) = p value

-- the lists of the frame have a spelling, and its texts no zero byte
abbrev pub parts_fit : Frame → Bool
parts_fit frame =
    if_there attrs_fit frame.signature && (if_there attrs_fit frame.payload
    && (if_there is_plain_text frame.path && (if_there is_plain_text frame.method
    && (if_there is_plain_text frame.user && if_there is_plain_text frame.group))))

-- the frame has a spelling
unfoldable pub fits : Frame → Bool
fits frame = parts_fit frame && nat_le (4 + length (written_fields frame)) MOST_BLOB

-- a test tells which frames have a spelling
pub record Tells (test : Frame → Bool) : Type 0 where
  pub fit : (frame : Frame) → test frame ≡ true → FitsFrame frame
  pub unfit : (frame : Frame) → test frame ≡ false → FitsFrame frame → ⊥
