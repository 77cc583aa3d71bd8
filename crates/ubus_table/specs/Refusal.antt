-- Refusals. A status 6 has a DATA frame in front, which tells what was denied.
use Rattle.std.specs.Prelude.{ℕ, List, [], ◌∷◌, ◌++◌, Bool, Option, Some, None, codes, if◌then◌else◌}
use Rattle.blob_codec.specs.declared.blob.Blob.{Blob}
use Rattle.blob_codec.specs.declared.blob.Blob.TheVariants.{Table as table_value, Str}
use Rattle.blob_codec.specs.declared.blob.Attr.{Attr}
use Rattle.ubus_frames.specs.declared.frame.Frame.{Frame}
use Rattle.ubus_table.specs.Table.{Table}
pub use Rattle.ubus_table.specs.declared.rows.LocalCall.{LocalCall}
use Rattle.ubus_table.specs.Frames.{Sent, DATA, plain, where_fits, reply, status_reply, is_set}

pub data Refusal : Type 0 where
  numbered : ℕ → Refusal
  -- a function of an object
  denial : List ℕ → List ℕ → Refusal

abbrev pub text_attr : List ℕ → List ℕ → Attr
text_attr name text = record { name = name; value = Str text }

-- what is told of a denial
abbrev pub denied : List ℕ → List ℕ → List Attr
denied function object =
    record {
      name = codes "denied";
      value = table_value (text_attr (codes "function") function
          ∷ text_attr (codes "object") object ∷ text_attr (codes "scope") (codes "ubus") ∷ []);
    } ∷ []

abbrev pub denial_data : Frame → List ℕ → List ℕ → Frame
denial_data request function object = record (reply DATA request) { payload = Some (denied function object) }

abbrev pub status_of : Refusal → ℕ
status_of (numbered code) = code
status_of (denial function object) = 6

-- the STATUS of a refusal, and the DATA in front of it
abbrev pub data_of : (Frame → Bool) → ℕ → Frame → Refusal → List Sent
data_of fits client request (numbered code) = []
data_of fits client request (denial function object) = where_fits fits client (denial_data request function object)

-- A message is refused. The STATUS is for the INVOKE of this place, where it is one.
abbrev pub refused : (Frame → Bool) → Option ℕ → ℕ → Frame → Refusal → List Sent
refused fits place client request refusal =
    data_of fits client request refusal
    ++ record { to = client; frame = status_reply request (status_of refusal); place = place } ∷ []

-- an INVOKE or a NOTIFY that wants no reply is refused in silence
abbrev pub refused_if_asked : (Frame → Bool) → Option ℕ → ℕ → Frame → Refusal → List Sent
refused_if_asked fits place client request refusal =
    if is_set request.no_reply then [] else refused fits place client request refusal

-- What a step gives: the table, the frames to send, and the call that is handed out.
pub record Step : Type 0 where
  pub table : Table
  pub sent : List Sent
  pub local : Option LocalCall

-- the table is this, and these frames are sent
abbrev pub says : Table → List Sent → Step
says table sent = record { table = table; sent = sent; local = None }

-- a message is refused, and the table stays
abbrev pub refuses : (Frame → Bool) → Table → ℕ → Frame → Refusal → Step
refuses fits table client request refusal = says table (refused fits None client request refusal)
