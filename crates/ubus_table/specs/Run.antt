-- Whole runs, and which STATUS is sent for which INVOKE.
use Rattle.std.specs.Prelude.{ℕ, ◌+◌, ◌≡◌, ◌≢◌, ◌⊎◌, List, [], ◌∷◌, ◌++◌, Bool, true, false, ◌&&◌, ◌==◌, not, ⊤, Option}
use Rattle.std.specs.Prelude.{Some, None, is_some, is_none, if◌then◌else◌}
use Rattle.std.specs.List.{list_any}
use Rattle.ubus_frames.specs.declared.frame.Frame.{Frame}
use Rattle.ubus_table.specs.Table.{Table, Client, Call, client_of, is_connected, is_local, is_owned}
use Rattle.ubus_table.specs.Frames.{Sent, STATUS, INVOKE, REMOVE_OBJECT, is_set}
use Rattle.ubus_table.specs.Calls.{is_of}
use Rattle.ubus_table.specs.Invoked.{Way, refusal, registration, sends, forwards, hands_out, way_of}
use Rattle.ubus_table.specs.Clients.{numbers_of}
use Rattle.ubus_table.specs.Served.{BusEvent, connect, frame, leave, local_reply, served}

-- the table after these events
abbrev pub after : (Frame → Bool) → Table → List BusEvent → Table
after fits table [] = table
after fits table (event ∷ events) = after fits (served fits table event).table events

-- all that they send
abbrev pub sent_by : (Frame → Bool) → Table → List BusEvent → List Sent
sent_by fits table [] = []
sent_by fits table (event ∷ events) = (served fits table event).sent
    ++ sent_by fits (served fits table event).table events

-- how many pass
abbrev pub count_of : {X : Type 0} → (X → Bool) → List X → ℕ
count_of p [] = 0
count_of p (x ∷ xs) = (if p x then 1 else 0) + count_of p xs

abbrev pub is_place : ℕ → Option ℕ → Bool
is_place place None = false
is_place place (Some other) = other == place

-- a STATUS that is sent for the INVOKE at this place
abbrev pub is_status_for : ℕ → Sent → Bool
is_status_for place sent = sent.frame.kind == STATUS && is_place place sent.place

-- how many STATUS are sent for the INVOKE at this place
abbrev pub statuses : ℕ → List Sent → ℕ
statuses place sent = count_of (is_status_for place) sent

-- how many of them go to this caller, with this sequence
abbrev pub statuses_to : ℕ → ℕ → ℕ → List Sent → ℕ
statuses_to place caller seq sent =
    count_of (λ (s : Sent). is_status_for place s && (s.to == caller && s.frame.seq == seq)) sent

-- how many open calls are of the message at this place
abbrev pub open_count : ℕ → List Call → ℕ
open_count place calls = count_of (λ (call : Call). call.place == place) calls

-- a message is an INVOKE
abbrev pub IsInvoke : Frame → Type 0
IsInvoke message = message.kind ≡ INVOKE

-- an INVOKE that asks for a reply
pub record Asks (message : Frame) : Type 0 where
  pub invoke : IsInvoke message
  pub asks : is_set message.no_reply ≡ false

-- the client does not leave in these events
abbrev pub Stays : ℕ → List BusEvent → Type 0
Stays client [] = ⊤
Stays client (connect user group ∷ events) = Stays client events
Stays client (frame sender message ∷ events) = Stays client events
Stays client (leave leaver ∷ events) = (leaver ≢ client) × Stays client events
Stays client (local_reply caller seq object status payload ∷ events) = Stays client events

-- an INVOKE that goes this way is refused, or answered by the event object
abbrev pub is_over : Way → Bool
is_over (refusal reason) = true
is_over (registration new) = true
is_over (sends id values) = true
is_over (forwards object) = false
is_over (hands_out object) = false

-- The message is one with which a call of the caller is over: the object's owner sends its STATUS, or removes the
-- object.
abbrev pub MessageEnds : Table → ℕ → ℕ → ℕ → ℕ → Frame → Type 0
MessageEnds table caller seq object sender message =
    (is_connected table sender ≡ true) × (is_owned table object sender ≡ true)
    × ((message.kind ≡ STATUS) × (message.peer ≡ caller) × (message.seq ≡ seq)
    × ((message.id ≡ None) ⊎ (message.id ≡ Some object))
    ⊎ (message.kind ≡ REMOVE_OBJECT) × (message.id ≡ Some object))

-- The event is one with which a call of the caller is over: such a message, the owner leaves, or the local object
-- answers.
abbrev pub Ends : Table → ℕ → ℕ → ℕ → BusEvent → Type 0
Ends table caller seq object (connect user group) = ⊥
Ends table caller seq object (frame sender message) = MessageEnds table caller seq object sender message
Ends table caller seq object (leave leaver) =
    (is_connected table leaver ≡ true) × (list_any (λ number. number == object) (numbers_of table leaver) ≡ true)
    × (leaver ≢ caller)
Ends table caller seq object (local_reply client number other status payload) =
    (client ≡ caller) × (number ≡ seq) × (other ≡ object) × (is_local object ≡ true)
