-- Which bytes spell a frame.
use Rattle.std.specs.Prelude.{ℕ, ◌+◌, ◌≡◌, ◌<◌, ◌≤◌, List, length, nat_eq, Option, Some, None, if◌then◌else◌}
use Rattle.blob_codec.specs.Attribute.{flag_in, type_in, behind}
use Rattle.ubus_frames.specs.declared.frame.Frame.{Frame}
use Rattle.ubus_frames.specs.declared.value.Kind.{Kind}
use Rattle.ubus_frames.specs.declared.value.Value.{Value}
use Rattle.ubus_frames.specs.Field.{IsWhole, data_in}
use Rattle.ubus_frames.specs.Frame.{HasHead, version_in, bare_in, blob_length_in, fields_in}
use Rattle.ubus_frames.specs.Value.{kind_of, IsValue, put}

-- what an attribute holds by its flag and its id; with the flag nothing that is read
abbrev pub kind_of_word : ℕ → ℕ → Option Kind
kind_of_word flag id = if nat_eq flag 1 then None else kind_of id

-- an attribute with this flag, id and data is passed over, or puts its value into the frame
pub data Puts (flag id : ℕ) (bytes : List ℕ) (before after : Frame) : Type 0 where
  passed : kind_of_word flag id ≡ None → after ≡ before → Puts flag id bytes before after
  known : (kind : Kind) (value : Value) → kind_of_word flag id ≡ Some kind
      → IsValue kind bytes value → after ≡ put id value before → Puts flag id bytes before after

-- the attribute in front is whole, and is passed over or puts its value into the frame
pub record Changes (bytes : List ℕ) (before after : Frame) : Type 0 where
  pub whole : IsWhole bytes
  pub puts : Puts (flag_in bytes) (type_in bytes) (data_in bytes) before after

-- The attributes, one after another, make the one frame of the other: of several with one id the
-- last counts.
pub data MakesOf : List ℕ → Frame → Frame → Type 0 where
  none : (bytes : List ℕ) (before after : Frame) → length bytes ≡ 0 → after ≡ before
      → MakesOf bytes before after
  field : (bytes : List ℕ) (before between after : Frame) → Changes bytes before between
      → MakesOf (behind bytes) between after → MakesOf bytes before after

-- the bytes begin with a frame's head and a blob that is there, whose attributes make the frame
pub record BeginsWithFrame (bytes : List ℕ) (frame : Frame) : Type 0 where
  pub head : HasHead bytes
  pub room : 8 + blob_length_in bytes ≤ length bytes
  pub fields : MakesOf (fields_in bytes) (bare_in bytes) frame

-- the bytes are one frame and nothing else
pub record SpellsFrame (bytes : List ℕ) (frame : Frame) : Type 0 where
  pub begins : BeginsWithFrame bytes frame
  pub all : 8 + blob_length_in bytes ≡ length bytes

-- The bytes may become a frame when others follow: nothing is there, or less than twelve bytes that
-- begin with the version 0, or a frame's head with less than its blob.
pub data IsUnfinished (bytes : List ℕ) : Type 0 where
  nothing : length bytes ≡ 0 → IsUnfinished bytes
  head : 0 < length bytes → length bytes < 12 → version_in bytes ≡ 0 → IsUnfinished bytes
  blob : HasHead bytes → length bytes < 8 + blob_length_in bytes → IsUnfinished bytes
