-- The one spelling of a frame whose padding is zero (ubus's ubusmsg).
use Rattle.std.specs.Prelude.{ℕ, ◌+◌, ◌*◌, ◌^◌, ◌<◌, ◌≤◌, Bool, true, false, List, [], ◌∷◌, ◌++◌, length, map, Option}
use Rattle.std.specs.Prelude.{Some, None}
use Rattle.std.specs.Int.{w16, w32, to_be_bytes}
use Rattle.std.specs.List.{concat}
use Rattle.blob_codec.specs.Limits.{FitsBlob, HasNoNul}
use Rattle.blob_codec.specs.Written.{padding, written}
use Rattle.ubus_frames.specs.declared.frame.TheConstants.{MOST_BLOB}
use Rattle.ubus_frames.specs.declared.frame.Frame.{Frame}

-- an attribute without the flag: its id and length in one word, its data, its padding
unfoldable pub written_field : ℕ → List ℕ → List ℕ
written_field id bytes =
    to_be_bytes w32 (id * 2 ^ 24 + (4 + length bytes)) ++ (bytes ++ padding (4 + length bytes))

-- the attribute where there is a value
abbrev pub where_some : {T : Type 0} → (T → List ℕ) → ℕ → Option T → List ℕ
where_some bytes_of id None = []
where_some bytes_of id (Some value) = written_field id (bytes_of value)

-- a number in four bytes, a text with a zero byte behind it, a byte 0 or 1
abbrev pub number_bytes : ℕ → List ℕ
number_bytes n = to_be_bytes w32 n

abbrev pub text_bytes : List ℕ → List ℕ
text_bytes text = text ++ 0 ∷ []

abbrev pub truth_bytes : Bool → List ℕ
truth_bytes true = 1 ∷ []
truth_bytes false = 0 ∷ []

-- numbers, each an attribute with the id 0
abbrev pub numbers_bytes : List ℕ → List ℕ
numbers_bytes numbers = concat (map (λ n. written_field 0 (number_bytes n)) numbers)

-- the attributes by rising id
abbrev pub fields_of : Frame → List (List ℕ)
fields_of frame =
    where_some number_bytes 1 frame.status ∷ where_some text_bytes 2 frame.path
    ∷ where_some number_bytes 3 frame.id ∷ where_some text_bytes 4 frame.method
    ∷ where_some number_bytes 5 frame.objtype ∷ where_some written 6 frame.signature
    ∷ where_some written 7 frame.payload ∷ where_some number_bytes 8 frame.target
    ∷ where_some truth_bytes 9 frame.active ∷ where_some truth_bytes 10 frame.no_reply
    ∷ where_some numbers_bytes 11 frame.subscribers ∷ where_some text_bytes 12 frame.user
    ∷ where_some text_bytes 13 frame.group ∷ []

abbrev pub written_fields : Frame → List ℕ
written_fields frame = concat (fields_of frame)

-- a frame: version 0, type, sequence, peer, and the blob, an attribute with the id 0
unfoldable pub written_frame : Frame → List ℕ
written_frame frame =
    0 ∷ frame.kind ∷ (to_be_bytes w16 frame.seq ++ (to_be_bytes w32 frame.peer
    ++ (to_be_bytes w32 (4 + length (written_fields frame)) ++ written_fields frame)))

-- what holds of a value where there is one
abbrev pub IfThere : {T : Type 0} → (T → Type 0) → Option T → Type 0
IfThere P None = Unit
IfThere P (Some value) = P value

-- the lists of the frame have a spelling, and its texts no zero byte
pub record PartsFit (frame : Frame) : Type 0 where
  pub signature : IfThere FitsBlob frame.signature
  pub payload : IfThere FitsBlob frame.payload
  pub path : IfThere HasNoNul frame.path
  pub method : IfThere HasNoNul frame.method
  pub user : IfThere HasNoNul frame.user
  pub group : IfThere HasNoNul frame.group

-- the frame has a spelling: its parts have one, and its blob is not too long
pub record FitsFrame (frame : Frame) : Type 0 where
  pub parts : PartsFit frame
  pub size : 4 + length (written_fields frame) ≤ MOST_BLOB

-- each number has 32 bits
abbrev pub AllWords : List ℕ → Type 0
AllWords [] = Unit
AllWords (n ∷ ns) = (n < 2 ^ 32) × AllWords ns

-- the numbers of a frame have the bits of their types
pub record IsTyped (frame : Frame) : Type 0 where
  pub kind : frame.kind < 2 ^ 8
  pub seq : frame.seq < 2 ^ 16
  pub peer : frame.peer < 2 ^ 32
  pub status : IfThere (λ n. n < 2 ^ 32) frame.status
  pub id : IfThere (λ n. n < 2 ^ 32) frame.id
  pub objtype : IfThere (λ n. n < 2 ^ 32) frame.objtype
  pub target : IfThere (λ n. n < 2 ^ 32) frame.target
  pub subscribers : IfThere AllWords frame.subscribers
