-- NOTIFY, forwarded calls, and their answers.
use Rattle.std.specs.Prelude.{ℕ, ◌==◌, ◌&&◌, not, List, [], ◌∷◌, ◌++◌, Bool, true, Option, Some, None, filter, map}
use Rattle.std.specs.Prelude.{codes, if◌then◌else◌}
use Rattle.std.specs.List.{find, flat_map, list_any}
use Rattle.ubus_frames.specs.declared.frame.Frame.{Frame}
use Rattle.ubus_table.specs.Table.{Table, Client, Object, Call, object_of, owner_of, is_owned, path_of}
use Rattle.ubus_table.specs.Frames.{Sent, INVOKE, plain, where_fits, to_owner, is_set, where_set, status_reply}
use Rattle.ubus_table.specs.Frames.{call_status, call_data}
use Rattle.ubus_table.specs.Refusal.{Refusal, numbered, denial, Step, says, refused_if_asked}
use Rattle.ubus_table.specs.Subscriptions.{subscribers_of}
use Rattle.ubus_table.specs.Objects.{told}
use Rattle.ubus_frames.specs.Frame.{bare}

-- the caller and the sequence are those of the call
abbrev pub is_named : ℕ → ℕ → Call → Bool
is_named caller seq call = call.caller == caller && call.seq == seq

-- the caller has an open call with the sequence
abbrev pub is_open : List Call → ℕ → ℕ → Bool
is_open calls caller seq = list_any (is_named caller seq) calls

-- all but the first call that passes
abbrev pub without_first : (Call → Bool) → List Call → List Call
without_first p [] = []
without_first p (call ∷ calls) = if p call then calls else call ∷ without_first p calls

-- an INVOKE as it is passed on to the owner of an object, with the user and the group of its caller
abbrev pub passed_on : Client → Frame → ℕ → Frame
passed_on client request object = record (bare INVOKE request.seq client.number) {
  id = Some object;
  method = request.method;
  no_reply = where_set (is_set request.no_reply);
  user = Some client.user;
  group = Some client.group;
  payload = request.payload;
}

-- the call that a message opens on an object
abbrev pub call_on : Table → Client → Frame → ℕ → Call
call_on table client request object =
    record {
      place = table.place;
      caller = client.number;
      seq = request.seq;
      object = object;
      no_reply =
          is_set request.no_reply;
    }

-- the objects to which a message can be passed on
abbrev pub reached : (Frame → Bool) → Client → Frame → List ℕ → List ℕ
reached fits client request objects = filter (λ object. fits (passed_on client request object)) objects

-- the calls that a NOTIFY opens: none without a reply
abbrev pub opened : (Frame → Bool) → Table → Client → Frame → List ℕ → List Call
opened fits table client request objects =
    if is_set request.no_reply then []
    else map (call_on table client request) (reached fits client request objects)

-- who is subscribed to the object of a NOTIFY
abbrev pub subscribers_told : Frame → ℕ → List ℕ → Frame
subscribers_told request object subscribers =
    record (status_reply request 0) { id = Some object; subscribers = Some subscribers }

-- the caller of a NOTIFY is told who is subscribed, where it asks for a reply
abbrev pub told_subscribers : (Frame → Bool) → Client → Frame → ℕ → List ℕ → List Sent
told_subscribers fits client request object subscribers =
    if is_set request.no_reply then []
    else where_fits fits client.number (subscribers_told request object subscribers)

abbrev pub notified : (Frame → Bool) → Table → Client → Frame → ℕ → Step
notified fits table client request object =
    let subscribers = subscribers_of table.subscriptions object in
    says (record table { calls = table.calls ++ opened fits table client request subscribers })
    (told_subscribers fits client request object subscribers
    ++ flat_map (λ subscriber. to_owner fits (owner_of table subscriber) (passed_on client request subscriber))
    subscribers)

-- a NOTIFY is refused, in silence where it wants no reply
abbrev pub refuses_notify : (Frame → Bool) → Table → Client → Frame → Refusal → Step
refuses_notify fits table client request refusal = says table (refused_if_asked fits None client.number request refusal)

abbrev pub notifies_found : (Frame → Bool) → Table → Client → Frame → Option Object → Step
notifies_found fits table client request None = refuses_notify fits table client request (numbered 4)
notifies_found fits table client request (Some object) =
    if not (object.owner == client.number)
    then refuses_notify fits table client request (denial (codes "notify") (path_of object))
    else (if not (is_set request.no_reply) && is_open table.calls client.number request.seq
    then refuses_notify fits table client request (numbered 2)
    else notified fits table client request object.number)

abbrev pub notifies_named : (Frame → Bool) → Table → Client → Frame → Option ℕ → Option (List ℕ) → Step
notifies_named fits table client request None method = refuses_notify fits table client request (numbered 2)
notifies_named fits table client request (Some object) None = refuses_notify fits table client request (numbered 2)
notifies_named fits table client request (Some object) (Some method) =
    notifies_found fits table client request (object_of table object)

-- NOTIFY: 2 without OBJID or METHOD; 4 where the object is not there; 6 where it is another's; 2 where a reply is asked
-- for and the caller has an open call with the sequence
abbrev pub notifies : (Frame → Bool) → Table → Client → Frame → Step
notifies fits table client request = notifies_named fits table client request request.id request.method

-- the number is that of the call, where one is told
abbrev pub is_of : Option ℕ → Call → Bool
is_of None call = true
is_of (Some object) call = call.object == object

-- the call is on an object of the client, and the peer, the sequence and OBJID, where there is one, name it
abbrev pub is_answered : Table → ℕ → Frame → Call → Bool
is_answered table client frame call =
    is_named frame.peer frame.seq call && (is_of frame.id call && is_owned table call.object client)

-- the call that a DATA or a STATUS answers: of several the one that was opened first
abbrev pub answered : Table → ℕ → Frame → Option Call
answered table client frame = find (is_answered table client frame) table.calls

abbrev pub data_passed : (Frame → Bool) → Table → Frame → Option Call → Step
data_passed fits table frame None = says table []
data_passed fits table frame (Some call) =
    says table (where_fits fits call.caller (call_data call.seq call.object frame.payload))

-- DATA: it goes to the caller of the call that it answers
abbrev pub passes_data : (Frame → Bool) → Table → ℕ → Frame → Step
passes_data fits table client frame = data_passed fits table frame (answered table client frame)

abbrev pub status_passed : Table → ℕ → Frame → Option Call → Step
status_passed table client frame None = says table []
status_passed table client frame (Some call) = says
    (record table { calls = without_first (is_answered table client frame) table.calls })
    (told frame.status call ∷ [])

-- STATUS: it goes to the caller of the call that it answers, and closes the call
abbrev pub passes_status : Table → ℕ → Frame → Step
passes_status table client frame = status_passed table client frame (answered table client frame)
