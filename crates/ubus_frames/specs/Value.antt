-- What each attribute of a frame holds, by its id (ubus's ubusmsg).
use Rattle.std.specs.Prelude.{ℕ, ◌≡◌, Bool, not, nat_eq, List, length, Option, Some, None, IsTrue, if◌then◌else◌}
use Rattle.std.specs.Prelude.{◌||◌}
use Rattle.std.specs.Int.{w8, w32, from_be_bytes}
use Rattle.blob_codec.specs.declared.blob.Attr.{Attr}
use Rattle.blob_codec.specs.Attribute.{is_terminated, without_last}
use Rattle.blob_codec.specs.Blob.{SpellsBlob}
use Rattle.ubus_frames.specs.declared.frame.Frame.{Frame}
use Rattle.ubus_frames.specs.declared.value.Kind.{Kind}
use Rattle.ubus_frames.specs.declared.value.Kind.TheVariants.{OneNumber, OneText, AttrList, OneByte, NumberList}
use Rattle.ubus_frames.specs.declared.value.Value.{Value}
use Rattle.ubus_frames.specs.declared.value.Value.TheVariants.{Number, Words, Attrs, Truth, Numbers}
use Rattle.ubus_frames.specs.Numbers.{SpellsNumbers}

-- a number: status 1, object 3, object type 5, target 8
abbrev pub is_number : ℕ → Bool
is_number id = nat_eq id 1 || (nat_eq id 3 || (nat_eq id 5 || nat_eq id 8))

-- a text: path 2, method 4, user 12, group 13
abbrev pub is_text : ℕ → Bool
is_text id = nat_eq id 2 || (nat_eq id 4 || (nat_eq id 12 || nat_eq id 13))

-- attributes with names: signature 6, data 7. A byte: active 9, no reply 10. Numbers: subscribers
-- 11. All other ids are unknown.
abbrev pub kind_of : ℕ → Option Kind
kind_of id =
    if is_number id then Some OneNumber
    else if is_text id then Some OneText
    else if nat_eq id 6 || nat_eq id 7 then Some AttrList
    else if nat_eq id 9 || nat_eq id 10 then Some OneByte
    else if nat_eq id 11 then Some NumberList
    else None

-- The bytes are this value: a number has four bytes, the highest first, a text a zero byte at its
-- end alone, attributes are a blob, and a byte is true where it is not 0.
pub data IsValue (kind : Kind) (bytes : List ℕ) (value : Value) : Type 0 where
  number : kind ≡ OneNumber → length bytes ≡ 4 → value ≡ Number (from_be_bytes w32 bytes)
      → IsValue kind bytes value
  text : kind ≡ OneText → IsTrue (is_terminated bytes) → value ≡ Words (without_last bytes)
      → IsValue kind bytes value
  attrs : (list : List Attr) → kind ≡ AttrList → SpellsBlob bytes list → value ≡ Attrs list
      → IsValue kind bytes value
  byte : kind ≡ OneByte → length bytes ≡ 1
      → value ≡ Truth (not (nat_eq (from_be_bytes w8 bytes) 0)) → IsValue kind bytes value
  numbers : (list : List ℕ) → kind ≡ NumberList → SpellsNumbers bytes list
      → value ≡ Numbers list → IsValue kind bytes value

-- a value stands in place of the one that its field had
abbrev pub put_number : ℕ → ℕ → Frame → Frame
put_number id n frame =
    if nat_eq id 1 then record frame { status = Some n }
    else if nat_eq id 3 then record frame { id = Some n }
    else if nat_eq id 5 then record frame { objtype = Some n }
    else if nat_eq id 8 then record frame { target = Some n }
    else frame

abbrev pub put_text : ℕ → List ℕ → Frame → Frame
put_text id words frame =
    if nat_eq id 2 then record frame { path = Some words }
    else if nat_eq id 4 then record frame { method = Some words }
    else if nat_eq id 12 then record frame { user = Some words }
    else if nat_eq id 13 then record frame { group = Some words }
    else frame

abbrev pub put_attrs : ℕ → List Attr → Frame → Frame
put_attrs id list frame =
    if nat_eq id 6 then record frame { signature = Some list }
    else if nat_eq id 7 then record frame { payload = Some list }
    else frame

abbrev pub put_truth : ℕ → Bool → Frame → Frame
put_truth id truth frame =
    if nat_eq id 9 then record frame { active = Some truth }
    else if nat_eq id 10 then record frame { no_reply = Some truth }
    else frame

-- the frame with this value of the attribute with this id
abbrev pub put : ℕ → Value → Frame → Frame
put id (Number n) frame = put_number id n frame
put id (Words words) frame = put_text id words frame
put id (Attrs list) frame = put_attrs id list frame
put id (Truth truth) frame = put_truth id truth frame
put id (Numbers list) frame = record frame { subscribers = Some list }
