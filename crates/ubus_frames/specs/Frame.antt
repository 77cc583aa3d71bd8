-- The head of a frame, all numbers with their highest byte first.
use Rattle.std.specs.Prelude.{ℕ, ◌+◌, ◌≡◌, ◌≤◌, List, take, drop, length, None}
use Rattle.std.specs.Int.{w8, w16, w32, from_be_bytes}
use Rattle.blob_codec.specs.Attribute.{flag_in, type_in, length_in}
use Rattle.ubus_frames.specs.declared.frame.TheConstants.{MOST_BLOB}
use Rattle.ubus_frames.specs.declared.frame.Frame.{Frame}

-- a frame without attributes
abbrev pub bare : ℕ → ℕ → ℕ → Frame
bare kind seq peer = record {
  kind = kind;
  seq = seq;
  peer = peer;
  status = None;
  path = None;
  id = None;
  method = None;
  objtype = None;
  signature = None;
  payload = None;
  target = None;
  active = None;
  no_reply = None;
  subscribers = None;
  user = None;
  group = None;
}

-- one byte of version
unfoldable pub version_in : List ℕ → ℕ
version_in bytes = from_be_bytes w8 (take 1 bytes)

-- one byte of type, two of sequence, four of peer
unfoldable pub bare_in : List ℕ → Frame
bare_in bytes =
    bare (from_be_bytes w8 (take 1 (drop 1 bytes))) (from_be_bytes w16 (take 2 (drop 2 bytes)))
    (from_be_bytes w32 (take 4 (drop 4 bytes)))

-- the blob: an attribute without padding, whose data are the frame's attributes
unfoldable pub blob_in : List ℕ → List ℕ
blob_in bytes = drop 8 bytes

-- how long the blob is
unfoldable pub blob_length_in : List ℕ → ℕ
blob_length_in bytes = length_in (blob_in bytes)

-- the attributes of the frame in front
unfoldable pub fields_in : List ℕ → List ℕ
fields_in bytes = drop 12 (take (8 + blob_length_in bytes) bytes)

-- the blob has no flag and the id 0
pub record IsPlainBlob (bytes : List ℕ) : Type 0 where
  pub flag : flag_in (blob_in bytes) ≡ 0
  pub id : type_in (blob_in bytes) ≡ 0

-- the blob has a length that is taken, and is plain
pub record IsTaken (bytes : List ℕ) : Type 0 where
  pub least : 4 ≤ blob_length_in bytes
  pub most : blob_length_in bytes ≤ MOST_BLOB
  pub plain : IsPlainBlob bytes

-- a frame may begin: twelve bytes are there, of version 0, and the blob is taken
pub record HasHead (bytes : List ℕ) : Type 0 where
  pub head : 12 ≤ length bytes
  pub version : version_in bytes ≡ 0
  pub taken : IsTaken bytes
