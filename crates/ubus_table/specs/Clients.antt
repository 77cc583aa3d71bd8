-- Clients that come and go, and calls that local objects answer.
use Rattle.std.specs.Prelude.{ℕ, ◌+◌, ◌==◌, ◌&&◌, ◌||◌, not, nat_lt, length, List, [], ◌∷◌, ◌++◌, Bool, true, false}
use Rattle.std.specs.Prelude.{Option, Some, None, map, filter, if◌then◌else◌}
use Rattle.std.specs.List.{find}
use Rattle.blob_codec.specs.declared.blob.Attr.{Attr}
use Rattle.ubus_frames.specs.declared.frame.Frame.{Frame}
use Rattle.ubus_table.specs.Table.{Table, Client, Object, Call, is_connected, is_local, last_number, most_clients}
use Rattle.ubus_table.specs.Frames.{Sent, plain, where_fits, hello, call_data, call_status}
use Rattle.ubus_table.specs.Refusal.{Step, says}
use Rattle.ubus_table.specs.Objects.{object_left, told}
use Rattle.ubus_table.specs.Calls.{is_named, without_first}

-- there are 256 clients, or the numbers are used up
abbrev pub is_full : Table → Bool
is_full table = not (nat_lt (length table.clients) most_clients) || nat_lt last_number table.next_client

-- a client comes, and is told its number
abbrev pub connected : Table → List ℕ → List ℕ → Step
connected table user group =
    if is_full table then says table []
    else says
    (record table {
      clients = table.clients ++ record { number = table.next_client; user = user; group = group } ∷ [];
      next_client = table.next_client + 1;
    })
    (plain table.next_client (hello table.next_client) ∷ [])

-- the client's own call, but for one that was handed out
abbrev pub is_forgotten : ℕ → Call → Bool
is_forgotten client call = call.caller == client && not (is_local call.object)

-- the table without a client and its calls
abbrev pub without_client : Table → ℕ → Table
without_client table client = record table {
  clients = filter (λ (other : Client). not (other.number == client)) table.clients;
  calls = filter (λ call. not (is_forgotten client call)) table.calls;
}

-- one step and then another
abbrev pub followed : Step → Step → Step
followed one other = record { table = other.table; sent = one.sent ++ other.sent; local = other.local }

-- the objects leave one after another
abbrev pub objects_left : (Frame → Bool) → Table → List ℕ → Step
objects_left fits table [] = says table []
objects_left fits table (number ∷ numbers) =
    followed (object_left fits table number) (objects_left fits (object_left fits table number).table numbers)

-- the numbers of a client's objects, as they were added
abbrev pub numbers_of : Table → ℕ → List ℕ
numbers_of table client =
    map (λ (object : Object). object.number) (filter (λ (object : Object). object.owner == client) table.objects)

-- nothing is sent to a client that leaves
abbrev pub to_others : ℕ → Step → Step
to_others client step = record step { sent = filter (λ (sent : Sent). not (sent.to == client)) step.sent }

-- A client leaves: its calls are forgotten, and then its objects leave by rising number.
abbrev pub left : (Frame → Bool) → Table → ℕ → Step
left fits table client =
    if is_connected table client
    then to_others client (objects_left fits (without_client table client) (numbers_of table client))
    else says table []

-- the call was handed out to this local object
abbrev pub is_handed_out : ℕ → ℕ → ℕ → Call → Bool
is_handed_out caller seq object call = is_named caller seq call && (call.object == object && is_local object)

-- the DATA of a reply, where there is a payload
abbrev pub reply_data : Call → Option (List Attr) → List Frame
reply_data call None = []
reply_data call (Some payload) = call_data call.seq call.object (Some payload) ∷ []

-- the status of a reply: 0 is 9 where the DATA does not fit
abbrev pub reply_status : (Frame → Bool) → ℕ → List Frame → ℕ
reply_status fits status [] = status
reply_status fits status (frame ∷ frames) = if status == 0 && not (fits frame) then 9 else status

abbrev pub data_sent : (Frame → Bool) → ℕ → List Frame → List Sent
data_sent fits to [] = []
data_sent fits to (frame ∷ frames) = where_fits fits to frame

abbrev pub reply_sent : (Frame → Bool) → Call → ℕ → Option (List Attr) → List Sent
reply_sent fits call status payload =
    data_sent fits call.caller (reply_data call payload)
    ++ told (Some (reply_status fits status (reply_data call payload))) call ∷ []

-- a local object answers a call; a caller that has left, or that wants no reply, is sent nothing
abbrev pub replied_to : (Frame → Bool) → Table → (Call → Bool) → ℕ → Option (List Attr) → Option Call → Step
replied_to fits table p status payload None = says table []
replied_to fits table p status payload (Some call) = says
    (record table { calls = without_first p table.calls })
    (if is_connected table call.caller && not call.no_reply then reply_sent fits call status payload else [])

abbrev pub replied : (Frame → Bool) → Table → ℕ → ℕ → ℕ → ℕ → Option (List Attr) → Step
replied fits table caller seq object status payload =
    replied_to fits table (is_handed_out caller seq object) status payload
    (find (is_handed_out caller seq object) table.calls)
