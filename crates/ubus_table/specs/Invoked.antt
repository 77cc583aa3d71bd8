-- INVOKE, and which way it goes.
use Rattle.std.specs.Prelude.{ℕ, ◌==◌, ◌&&◌, not, List, [], ◌∷◌, ◌++◌, Bool, true, false, Option, Some, None, unwrap_or}
use Rattle.std.specs.Prelude.{if◌then◌else◌}
use Rattle.blob_codec.specs.declared.blob.Attr.{Attr}
use Rattle.ubus_frames.specs.declared.frame.Frame.{Frame}
use Rattle.ubus_acl.specs.Acl.{may_call}
use Rattle.ubus_table.specs.Table.{Table, Client, Object, Registration, Call, no_client, event_object, object_of}
use Rattle.ubus_table.specs.Table.{path_of}
use Rattle.ubus_table.specs.Frames.{Sent, where_fits, is_set, status_reply}
use Rattle.ubus_table.specs.Refusal.{Refusal, numbered, denial, LocalCall, Step, says, refused_if_asked}
use Rattle.ubus_table.specs.Calls.{is_open, passed_on, call_on}
use Rattle.ubus_table.specs.Events.{Event, bad, registered, event, event_of, with_registration, events_sent}

-- which way an INVOKE goes
pub data Way : Type 0 where
  refusal : Refusal → Way
  registration : Registration → Way
  sends : List ℕ → List Attr → Way
  forwards : Object → Way
  hands_out : Object → Way

abbrev pub event_way : Event → Way
event_way (bad reason) = refusal reason
event_way (registered new) = registration new
event_way (event id values) = sends id values

-- no other refusal is left but that the forwarded frame does not fit, where a reply is asked for
abbrev pub open_way : (Frame → Bool) → Client → Frame → Object → Way
open_way fits client request object =
    if object.owner == no_client then hands_out object
    else (if not (is_set request.no_reply) && not (fits (passed_on client request object.number))
    then refusal (numbered 9)
    else forwards object)

abbrev pub object_way : (Frame → Bool) → Table → Client → Frame → List ℕ → Option Object → Way
object_way fits table client request method None = refusal (numbered 4)
object_way fits table client request method (Some object) =
    if object.number == event_object.number then event_way (event_of table client method (unwrap_or request.payload []))
    else (if not (may_call client.user client.group (path_of object) method table.acl)
    then refusal (denial method (path_of object))
    else (if is_open table.calls client.number request.seq then refusal (numbered 2)
    else open_way fits client request object))

abbrev pub named_way : (Frame → Bool) → Table → Client → Frame → Option ℕ → Option (List ℕ) → Way
named_way fits table client request None method = refusal (numbered 2)
named_way fits table client request (Some object) None = refusal (numbered 2)
named_way fits table client request (Some object) (Some method) =
    object_way fits table client request method (object_of table object)

-- INVOKE: 2 without OBJID or METHOD; 4 where the object is not there; 6 where the access list says so; 2 where the
-- caller has an open call with the sequence; 9 where a reply is asked for and the forwarded frame does not fit. The
-- event object has refusals of its own.
abbrev pub way_of : (Frame → Bool) → Table → Client → Frame → Way
way_of fits table client request = named_way fits table client request request.id request.method

-- the STATUS 0 of the event object, where a reply is asked for
abbrev pub done : Table → Client → Frame → List Sent
done table client request =
    if is_set request.no_reply then []
    else record { to = client.number; frame = status_reply request 0; place = Some table.place } ∷ []

abbrev pub local_call : Client → Frame → Object → LocalCall
local_call client request object = record {
  caller = client.number;
  seq = request.seq;
  object = object.number;
  method = unwrap_or request.method [];
  args = unwrap_or request.payload [];
  no_reply = is_set request.no_reply;
}

abbrev pub with_call : Table → Call → Table
with_call table call = record table { calls = table.calls ++ call ∷ [] }

-- an INVOKE goes its way
abbrev pub goes : (Frame → Bool) → Table → Client → Frame → Way → Step
goes fits table client request (refusal reason) =
    says table (refused_if_asked fits (Some table.place) client.number request reason)
goes fits table client request (registration new) =
    says (record table { registrations = with_registration table.registrations new }) (done table client request)
goes fits table client request (sends id values) =
    says table (events_sent fits table client.number id values ++ done table client request)
goes fits table client request (forwards object) =
    says (if is_set request.no_reply then table else with_call table (call_on table client request object.number))
    (where_fits fits object.owner (passed_on client request object.number))
goes fits table client request (hands_out object) = record {
  table = with_call table (call_on table client request object.number);
  sent = [];
  local = Some (local_call client request object);
}

abbrev pub invokes : (Frame → Bool) → Table → Client → Frame → Step
invokes fits table client request = goes fits table client request (way_of fits table client request)
