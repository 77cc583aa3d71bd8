-- The frames that are sent. No frame is sent that does not fit, as a test tells.
use Rattle.std.specs.Prelude.{ℕ, ◌≡◌, List, [], ◌∷◌, ◌++◌, Bool, true, false, Option, Some, None, if◌then◌else◌, map}
use Rattle.std.specs.List.{flat_map, list_all}
use Rattle.blob_codec.specs.declared.blob.Attr.{Attr}
use Rattle.ubus_frames.specs.declared.frame.Frame.{Frame}
use Rattle.ubus_frames.specs.Frame.{bare}

-- the kinds of messages
abbrev pub HELLO : ℕ
HELLO = 0

abbrev pub STATUS : ℕ
STATUS = 1

abbrev pub DATA : ℕ
DATA = 2

abbrev pub PING : ℕ
PING = 3

abbrev pub LOOKUP : ℕ
LOOKUP = 4

abbrev pub INVOKE : ℕ
INVOKE = 5

abbrev pub ADD_OBJECT : ℕ
ADD_OBJECT = 6

abbrev pub REMOVE_OBJECT : ℕ
REMOVE_OBJECT = 7

abbrev pub SUBSCRIBE : ℕ
SUBSCRIBE = 8

abbrev pub UNSUBSCRIBE : ℕ
UNSUBSCRIBE = 9

abbrev pub NOTIFY : ℕ
NOTIFY = 10

-- A frame to a client. Where it is the STATUS for an INVOKE, with the place of that INVOKE.
pub record Sent : Type 0 where
  pub to : ℕ
  pub frame : Frame
  pub place : Option ℕ

-- a frame that is no STATUS for an INVOKE
abbrev pub plain : ℕ → Frame → Sent
plain to frame = record { to = to; frame = frame; place = None }

-- the frame, where it fits
abbrev pub where_fits : (Frame → Bool) → ℕ → Frame → List Sent
where_fits fits to frame = if fits frame then plain to frame ∷ [] else []

-- the frame to the owner of an object, where it fits
abbrev pub to_owner : (Frame → Bool) → Option ℕ → Frame → List Sent
to_owner fits None frame = []
to_owner fits (Some owner) frame = where_fits fits owner frame

-- a flag is set: it is there and true
abbrev pub is_set : Option Bool → Bool
is_set None = false
is_set (Some flag) = flag

-- a flag that is set, or absent
abbrev pub where_set : Bool → Option Bool
where_set flag = if flag then Some true else None

-- a reply has the sequence and the peer of its request
abbrev pub reply : ℕ → Frame → Frame
reply kind request = bare kind request.seq request.peer

abbrev pub status_reply : Frame → ℕ → Frame
status_reply request status = record (reply STATUS request) { status = Some status }

-- a client is sent a STATUS for its request
abbrev pub answer : ℕ → Frame → ℕ → Sent
answer client request status = plain client (status_reply request status)

-- DATA frames, where they fit, and then STATUS 0, which is 9 where one was left out
abbrev pub with_data : (Frame → Bool) → ℕ → Frame → List Frame → List Sent
with_data fits client request frames =
    flat_map (where_fits fits client) frames ++ answer client request (if list_all fits frames then 0 else 9) ∷ []

-- A frame that is no reply has the sequence 0 and the peer 0, where nothing else is said.
abbrev pub notice : ℕ → Frame
notice kind = bare kind 0 0

-- a new client is told its number
abbrev pub hello : ℕ → Frame
hello client = bare HELLO 0 client

-- the first subscriber came, or the last one went
abbrev pub active : ℕ → Bool → Frame
active object flag = record (notice NOTIFY) { id = Some object; active = Some flag }

-- a subscriber is told that the object is gone
abbrev pub gone : ℕ → ℕ → Frame
gone subscriber target = record (notice UNSUBSCRIBE) { id = Some subscriber; target = Some target }

-- the STATUS, or the DATA, of a call, with the object's number as peer
abbrev pub call_status : ℕ → ℕ → Option ℕ → Frame
call_status seq object status = record (bare STATUS seq object) { status = status }

abbrev pub call_data : ℕ → ℕ → Option (List Attr) → Frame
call_data seq object payload = record (bare DATA seq object) { payload = payload }
