-- What a step does, but for places, does not depend on places.
use Rattle.std.proofs.Common.{ℕ, ◌+◌, ◌≡◌, List, [], ◌∷◌, ◌++◌, Bool, true, false, refl, ap, sym, subst, ◌∙◌}
use Rattle.std.specs.Prelude.{Option, Some, None, if◌then◌else◌, ◌==◌, ◌&&◌, ◌||◌, not, filter, map, codes, unwrap_or}
use Rattle.std.specs.Option.{option_map}
use Rattle.std.specs.List.{find, list_any, flat_map}
use Rattle.blob_codec.specs.declared.blob.Attr.{Attr}
use Rattle.ubus_frames.specs.declared.frame.Frame.{Frame}
use Rattle.ubus_acl.specs.Acl.{may_subscribe, may_call}
use Rattle.ubus_table.specs.declared.rows.Client.{Client}
use Rattle.ubus_table.specs.declared.rows.Object.{Object}
use Rattle.ubus_table.specs.declared.rows.Subscription.{Subscription}
use Rattle.ubus_table.specs.Table.{Table, Call, no_client, event_object, client_of, object_of, owner_of, is_owned, is_connected, path_of}
use Rattle.ubus_table.specs.Frames.{Sent, STATUS, DATA, PING, LOOKUP, INVOKE, ADD_OBJECT, REMOVE_OBJECT, SUBSCRIBE, UNSUBSCRIBE, NOTIFY, where_fits, to_owner, with_data, answer, is_set, status_reply, call_status, call_data}
use Rattle.ubus_table.specs.Refusal.{Refusal, numbered, denial, data_of, status_of, refused, refused_if_asked, Step, says, refuses}
use Rattle.ubus_table.specs.Asked.{pinged, looked_up, told_of, asked_for}
use Rattle.ubus_table.specs.Subscriptions.{has_subscription, is_alone, without, activity, subscribed, subscribes_both, subscribes_found, subscribes_named, subscribes, unsubscribed, unsubscribes_named, unsubscribes, subscribers_of}
use Rattle.ubus_table.specs.Objects.{is_refused_path, is_unknown_type, may_add, is_full as is_full_of_objects, new_object, added, adds, is_on, told, farewells, endings, without_object, object_left, lost_type, object_data, removed}
use Rattle.ubus_table.specs.Objects.{removes_found, removes_named, removes}
use Rattle.ubus_table.specs.Calls.{is_named, is_open, without_first, passed_on, call_on, reached, opened, told_subscribers, notified, refuses_notify, notifies_found, notifies_named, notifies, is_of, is_answered, answered, data_passed}
use Rattle.ubus_table.specs.Calls.{passes_data, status_passed, passes_status}
use Rattle.ubus_table.specs.Events.{Event, events_sent, event_of, with_registration}
use Rattle.ubus_table.specs.Invoked.{Way, refusal, registration, sends, forwards, hands_out, event_way, open_way, object_way, named_way, way_of, done, local_call, with_call, goes, invokes}
use Rattle.ubus_table.specs.Clients.{is_full, connected, is_forgotten, without_client, followed, objects_left, numbers_of, to_others, left, is_handed_out, reply_data, reply_status, data_sent, reply_sent, replied_to, replied}
use Rattle.ubus_table.specs.Served.{BusEvent, connect, frame, leave, local_reply, said, said_by, happened, served}
use Rattle.ubus_table.specs.Places.{without_place, placeless, Outgoing, outgoing, frames_of, IsSameButPlaces}

-- the calls are the same but for places
abbrev Alike : List Call → List Call → Type 0
Alike one other = map without_place one ≡ map without_place other

-- a test does not look at the place
abbrev Looks : (Call → Bool) → Type 0
Looks p = (call : Call) → p (without_place call) ≡ p call

-- the table with other calls, and another place
abbrev with : Table → ℕ → List Call → Table
with table place calls = record table { place = place; calls = calls }

as_with : (table other : Table) → placeless table ≡ placeless other → with table other.place other.calls ≡ other
as_with table other same = ap (λ t. with t other.place other.calls) same

alike_calls : (table other : Table) → placeless table ≡ placeless other → Alike table.calls other.calls
alike_calls table other same = ap (λ t. t.calls) same

-- lists of calls
module _ (p : Call → Bool) (looks : Looks p) where
  filter_map : (calls : List Call) → map without_place (filter p calls) ≡ filter p (map without_place calls)
  filter_map [] = refl
  filter_map (call ∷ calls) = rw (looks call) (by_test (p call) (filter_map calls))
    where
      by_test : (b : Bool) → map without_place (filter p calls) ≡ filter p (map without_place calls) → map without_place (if b then call ∷ filter p calls else filter p calls)
          ≡ (if b then without_place call ∷ filter p (map without_place calls) else filter p (map without_place calls))
      by_test true h = ap (λ cs. without_place call ∷ cs) h
      by_test false h = h

  alike_filter : (one other : List Call) → Alike one other → Alike (filter p one) (filter p other)
  alike_filter one other h = filter_map one ∙ (ap (filter p) h ∙ sym (filter_map other))

  rest_map : (calls : List Call) → map without_place (without_first p calls) ≡ without_first p (map without_place calls)
  rest_map [] = refl
  rest_map (call ∷ calls) = rw (looks call) (by_test (p call) (rest_map calls))
    where
      by_test : (b : Bool) → map without_place (without_first p calls) ≡ without_first p (map without_place calls) → map without_place (if b then calls else call ∷ without_first p calls)
          ≡ (if b then map without_place calls else without_place call ∷ without_first p (map without_place calls))
      by_test true h = refl
      by_test false h = ap (λ cs. without_place call ∷ cs) h

  alike_rest : (one other : List Call) → Alike one other → Alike (without_first p one) (without_first p other)
  alike_rest one other h = rest_map one ∙ (ap (without_first p) h ∙ sym (rest_map other))

  find_map : (calls : List Call) → option_map without_place (find p calls) ≡ find p (map without_place calls)
  find_map [] = refl
  find_map (call ∷ calls) = rw (looks call) (by_test (p call) (find_map calls))
    where
      by_test : (b : Bool) → option_map without_place (find p calls) ≡ find p (map without_place calls) → option_map without_place (if b then Some call else find p calls)
          ≡ (if b then Some (without_place call) else find p (map without_place calls))
      by_test true h = refl
      by_test false h = h

  alike_find : (one other : List Call) → Alike one other → option_map without_place (find p one) ≡ option_map without_place (find p other)
  alike_find one other h = find_map one ∙ (ap (find p) h ∙ sym (find_map other))

  any_map : (calls : List Call) → list_any p calls ≡ list_any p (map without_place calls)
  any_map [] = refl
  any_map (call ∷ calls) = rw (looks call, any_map calls) refl

  alike_any : (one other : List Call) → Alike one other → list_any p one ≡ list_any p other
  alike_any one other h = any_map one ∙ (ap (list_any p) h ∙ sym (any_map other))

map_append : (one other : List Call) → map without_place (one ++ other) ≡ map without_place one ++ map without_place other
map_append [] other = refl
map_append (call ∷ calls) other = ap (λ cs. without_place call ∷ cs) (map_append calls other)

alike_append : (one other more others : List Call) → Alike one other → Alike more others → Alike (one ++ more) (other ++ others)
alike_append one other more others h k = map_append one more ∙ (ap (λ cs. cs ++ map without_place more) h ∙ (ap (λ cs. map without_place other ++ cs) k ∙ sym (map_append other others)))

-- what a call is answered by does not look at its place
of_looks : (id : Option ℕ) (call : Call) → is_of id (without_place call) ≡ is_of id call
of_looks None call = refl
of_looks (Some object) call = refl

looks_answered : (table : Table) (client : ℕ) (message : Frame) → Looks (is_answered table client message)
looks_answered table client message call = ap (λ b. is_named message.peer message.seq call && (b && is_owned table call.object client)) (of_looks message.id call)

-- frames
frames_append : (one other : List Sent) → frames_of (one ++ other) ≡ frames_of one ++ frames_of other
frames_append [] other = refl
frames_append (s ∷ sent) other = ap (λ ss. outgoing s ∷ ss) (frames_append sent other)

same_append : (one other more others : List Sent) → frames_of one ≡ frames_of other → frames_of more ≡ frames_of others → frames_of (one ++ more) ≡ frames_of (other ++ others)
same_append one other more others h k = frames_append one more ∙ (ap (λ ss. ss ++ frames_of more) h ∙ (ap (λ ss. frames_of other ++ ss) k ∙ sym (frames_append other others)))

-- the STATUS of a call, as it goes out
abbrev status_out : Option ℕ → Call → Outgoing
status_out status call = (call.caller, call_status call.seq call.object status)

told_out : (status : Option ℕ) (calls : List Call) → frames_of (map (told status) calls) ≡ map (status_out status) (map without_place calls)
told_out status [] = refl
told_out status (call ∷ calls) = ap (λ ss. status_out status call ∷ ss) (told_out status calls)

same_told : (status : Option ℕ) (one other : List Call) → Alike one other → frames_of (map (told status) one) ≡ frames_of (map (told status) other)
same_told status one other h = told_out status one ∙ (ap (map (status_out status)) h ∙ sym (told_out status other))

others_out : (client : ℕ) (sent : List Sent) → frames_of (filter (λ (s : Sent). not (s.to == client)) sent) ≡ filter (λ (o : Outgoing). not (o.0 == client)) (frames_of sent)
others_out client [] = refl
others_out client (s ∷ sent) = by_client (s.to == client) (others_out client sent)
  where
    by_client : (b : Bool) → frames_of (filter (λ (x : Sent). not (x.to == client)) sent) ≡ filter (λ (o : Outgoing). not (o.0 == client)) (frames_of sent)
        → frames_of (if not b then s ∷ filter (λ (x : Sent). not (x.to == client)) sent else filter (λ (x : Sent). not (x.to == client)) sent)
        ≡ (if not b then outgoing s ∷ filter (λ (o : Outgoing). not (o.0 == client)) (frames_of sent) else filter (λ (o : Outgoing). not (o.0 == client)) (frames_of sent))
    by_client true h = h
    by_client false h = ap (λ ss. outgoing s ∷ ss) h

-- steps
same_says : (table : Table) (place : ℕ) (calls : List Call) (sent : List Sent) → Alike table.calls calls → IsSameButPlaces (says table sent) (says (with table place calls) sent)
same_says table place calls sent h = record { table = ap (λ cs. with table 0 cs) h; sent = refl; local = refl }

same_steps : (one other : Table) (sent more : List Sent) → placeless one ≡ placeless other → frames_of sent ≡ frames_of more → IsSameButPlaces (says one sent) (says other more)
same_steps one other sent more h k = record { table = h; sent = k; local = refl }

same_if : (b : Bool) (a c x y : Step) → IsSameButPlaces a x → IsSameButPlaces c y → IsSameButPlaces (if b then a else c) (if b then x else y)
same_if true a c x y h k = h
same_if false a c x y h k = k

module _ (fits : Frame → Bool) (table : Table) (place : ℕ) (calls : List Call) (alike : Alike table.calls calls) where
  same_refuses : (client : ℕ) (request : Frame) (reason : Refusal) → IsSameButPlaces (refuses fits table client request reason) (refuses fits (with table place calls) client request reason)
  same_refuses client request reason = same_says table place calls (refused fits None client request reason) alike

  same_told_of : (client : ℕ) (request : Frame) (objects : List Object) → IsSameButPlaces (told_of fits table client request objects) (told_of fits (with table place calls) client request objects)
  same_told_of client request [] = same_refuses client request (numbered 4)
  same_told_of client request (object ∷ objects) = same_says table place calls _ alike

  same_subscribed : (client : Client) (request : Frame) (subscription : Subscription) → IsSameButPlaces (subscribed fits table client request subscription) (subscribed fits (with table place calls) client request subscription)
  same_subscribed client request subscription = same_if (has_subscription table.subscriptions subscription) _ _ _ _
      (same_says table place calls _ alike)
      (same_says (record table { subscriptions = table.subscriptions ++ subscription ∷ [] }) place calls _ alike)

  same_subscribes_both : (client : Client) (request : Frame) (subscriber target : Object)
      → IsSameButPlaces (subscribes_both fits table client request subscriber target) (subscribes_both fits (with table place calls) client request subscriber target)
  same_subscribes_both client request subscriber target = same_if (target.owner == no_client) _ _ _ _
      (same_refuses client.number request (numbered 4))
      (same_if (not (subscriber.owner == client.number)) _ _ _ _
      (same_refuses client.number request (denial (codes "subscribe") (path_of subscriber)))
      (same_if (not (may_subscribe client.user client.group (path_of target) table.acl)) _ _ _ _
      (same_refuses client.number request (denial (codes "subscribe") (path_of target)))
      (same_subscribed client request (record { subscriber = subscriber.number; target = target.number }))))

  same_subscribes_found : (client : Client) (request : Frame) (subscriber target : Option Object)
      → IsSameButPlaces (subscribes_found fits table client request subscriber target) (subscribes_found fits (with table place calls) client request subscriber target)
  same_subscribes_found client request None target = same_refuses client.number request (numbered 4)
  same_subscribes_found client request (Some subscriber) None = same_refuses client.number request (numbered 4)
  same_subscribes_found client request (Some subscriber) (Some target) = same_subscribes_both client request subscriber target

  same_subscribes_named : (client : Client) (request : Frame) (subscriber target : Option ℕ)
      → IsSameButPlaces (subscribes_named fits table client request subscriber target) (subscribes_named fits (with table place calls) client request subscriber target)
  same_subscribes_named client request None target = same_refuses client.number request (numbered 2)
  same_subscribes_named client request (Some subscriber) None = same_refuses client.number request (numbered 2)
  same_subscribes_named client request (Some subscriber) (Some target) = same_subscribes_found client request (object_of table subscriber) (object_of table target)

  same_unsubscribed : (client : Client) (request : Frame) (subscription : Subscription) → IsSameButPlaces (unsubscribed fits table client request subscription) (unsubscribed fits (with table place calls) client request subscription)
  same_unsubscribed client request subscription = same_if (has_subscription table.subscriptions subscription && is_owned table subscription.subscriber client.number) _ _ _ _
      (same_says (record table { subscriptions = without table.subscriptions subscription }) place calls _ alike)
      (same_refuses client.number request (numbered 4))

  same_unsubscribes_named : (client : Client) (request : Frame) (subscriber target : Option ℕ)
      → IsSameButPlaces (unsubscribes_named fits table client request subscriber target) (unsubscribes_named fits (with table place calls) client request subscriber target)
  same_unsubscribes_named client request None target = same_refuses client.number request (numbered 2)
  same_unsubscribes_named client request (Some subscriber) None = same_refuses client.number request (numbered 2)
  same_unsubscribes_named client request (Some subscriber) (Some target) = same_unsubscribed client request (record { subscriber = subscriber; target = target })

  same_adds : (client : Client) (request : Frame) → IsSameButPlaces (adds fits table client request) (adds fits (with table place calls) client request)
  same_adds client request = same_if (is_refused_path table request.path || is_unknown_type table request.objtype) _ _ _ _
      (same_refuses client.number request (numbered 2))
      (same_if (not (may_add table client request.path)) _ _ _ _
      (same_refuses client.number request (denial (codes "publish") (unwrap_or request.path [])))
      (same_if (is_full_of_objects table) _ _ _ _
      (same_refuses client.number request (numbered 9))
      (same_says (added fits table client request (new_object table client request)).table place calls _ alike)))

  -- an object leaves
  same_object_left : (number : ℕ) → IsSameButPlaces (object_left fits table number) (object_left fits (with table place calls) number)
  same_object_left number = same_steps (without_object table number) (without_object (with table place calls) number) _ _
      (ap (λ cs. with (without_object table number) 0 cs) (alike_filter (λ call. not (is_on number call)) (λ call. refl) table.calls calls alike))
      (same_append _ _ _ _ (same_told (Some 10) _ _ (alike_filter (is_on number) (λ call. refl) table.calls calls alike)) refl)

  same_removes_found : (client : Client) (request : Frame) (found : Option Object) → IsSameButPlaces (removes_found fits table client request found) (removes_found fits (with table place calls) client request found)
  same_removes_found client request None = same_refuses client.number request (numbered 4)
  same_removes_found client request (Some object) =
      let gone = same_object_left object.number in
      same_if (object.owner == client.number) _ _ _ _
      (same_steps (without_object table object.number) (without_object (with table place calls) object.number) _ _ gone.table
      (same_append _ _ _ _ gone.sent refl))
      (same_refuses client.number request (denial (codes "remove") (path_of object)))

  same_removes_named : (client : Client) (request : Frame) (id : Option ℕ) → IsSameButPlaces (removes_named fits table client request id) (removes_named fits (with table place calls) client request id)
  same_removes_named client request None = same_refuses client.number request (numbered 2)
  same_removes_named client request (Some number) = same_removes_found client request (object_of table number)

  -- calls that are found by a test that does not look at the place
  same_data_passed : (message : Frame) (found other : Option Call) → option_map without_place found ≡ option_map without_place other
      → IsSameButPlaces (data_passed fits table message found) (data_passed fits (with table place calls) message other)
  same_data_passed message None None h = same_says table place calls [] alike
  same_data_passed message None (Some call) h = absurd (cc h)
  same_data_passed message (Some call) None h = absurd (cc h)
  same_data_passed message (Some one) (Some other) h =
      same_steps table (with table place calls) _ _ (ap (λ cs. with table 0 cs) alike)
      (ap (λ (found : Option Call). frames_of (data_passed fits table message found).sent) h)

  same_status_passed : (client : ℕ) (message : Frame) (found other : Option Call) → option_map without_place found ≡ option_map without_place other
      → IsSameButPlaces (status_passed table client message found) (status_passed (with table place calls) client message other)
  same_status_passed client message None None h = same_says table place calls [] alike
  same_status_passed client message None (Some call) h = absurd (cc h)
  same_status_passed client message (Some call) None h = absurd (cc h)
  same_status_passed client message (Some one) (Some other) h =
      same_steps (record table { calls = without_first (is_answered table client message) table.calls }) (record (with table place calls) { calls = without_first (is_answered table client message) calls }) _ _
      (ap (λ cs. with table 0 cs) (alike_rest (is_answered table client message) (looks_answered table client message) table.calls calls alike))
      (ap (λ (found : Option Call). frames_of (status_passed table client message found).sent) h)

  -- NOTIFY
  alike_opened : (client : Client) (request : Frame) (objects : List ℕ) → Alike (map (call_on table client request) objects) (map (call_on (with table place calls) client request) objects)
  alike_opened client request [] = refl
  alike_opened client request (object ∷ objects) = ap (λ cs. without_place (call_on table client request object) ∷ cs) (alike_opened client request objects)

  alike_opened_if : (b : Bool) (client : Client) (request : Frame) (objects : List ℕ) → Alike (if b then [] else map (call_on table client request) objects) (if b then [] else map (call_on (with table place calls) client request) objects)
  alike_opened_if true client request objects = refl
  alike_opened_if false client request objects = alike_opened client request objects

  same_notified : (client : Client) (request : Frame) (object : ℕ) → IsSameButPlaces (notified fits table client request object) (notified fits (with table place calls) client request object)
  same_notified client request object =
      let subscribers = subscribers_of table.subscriptions object in
      same_steps (notified fits table client request object).table (notified fits (with table place calls) client request object).table _ _
      (ap (λ cs. with table 0 cs) (alike_append table.calls calls (opened fits table client request subscribers) (opened fits (with table place calls) client request subscribers) alike
      (alike_opened_if (is_set request.no_reply) client request (reached fits client request subscribers)))) refl

  same_refuses_notify : (client : Client) (request : Frame) (reason : Refusal) → IsSameButPlaces (refuses_notify fits table client request reason) (refuses_notify fits (with table place calls) client request reason)
  same_refuses_notify client request reason = same_says table place calls _ alike

  same_open : (caller seq : ℕ) → is_open table.calls caller seq ≡ is_open calls caller seq
  same_open caller seq = alike_any (is_named caller seq) (λ call. refl) table.calls calls alike

  same_choice : (b c : Bool) (x y u v : Step) → b ≡ c → IsSameButPlaces x u → IsSameButPlaces y v → IsSameButPlaces (if b then x else y) (if c then u else v)
  same_choice b c x y u v e h k = subst (λ d. IsSameButPlaces (if b then x else y) (if d then u else v)) e (same_if b x y u v h k)

  same_notifies_found : (client : Client) (request : Frame) (found : Option Object) → IsSameButPlaces (notifies_found fits table client request found) (notifies_found fits (with table place calls) client request found)
  same_notifies_found client request None = same_refuses_notify client request (numbered 4)
  same_notifies_found client request (Some object) = same_if (not (object.owner == client.number)) _ _ _ _
      (same_refuses_notify client request (denial (codes "notify") (path_of object)))
      (same_choice _ _ _ _ _ _ (ap (λ b. not (is_set request.no_reply) && b) (same_open client.number request.seq))
      (same_refuses_notify client request (numbered 2))
      (same_notified client request object.number))

  same_notifies_named : (client : Client) (request : Frame) (id : Option ℕ) (method : Option (List ℕ))
      → IsSameButPlaces (notifies_named fits table client request id method) (notifies_named fits (with table place calls) client request id method)
  same_notifies_named client request None method = same_refuses_notify client request (numbered 2)
  same_notifies_named client request (Some object) None = same_refuses_notify client request (numbered 2)
  same_notifies_named client request (Some object) (Some method) = same_notifies_found client request (object_of table object)

  -- INVOKE
  same_object_way : (client : Client) (request : Frame) (method : List ℕ) (found : Option Object) → object_way fits table client request method found ≡ object_way fits (with table place calls) client request method found
  same_object_way client request method None = refl
  same_object_way client request method (Some object) = ap
      (λ b. if object.number == event_object.number then event_way (event_of table client method (unwrap_or request.payload []))
      else (if not (may_call client.user client.group (path_of object) method table.acl) then refusal (denial method (path_of object))
      else (if b then refusal (numbered 2) else open_way fits client request object))) (same_open client.number request.seq)

  same_way : (client : Client) (request : Frame) (id : Option ℕ) (method : Option (List ℕ)) → named_way fits table client request id method ≡ named_way fits (with table place calls) client request id method
  same_way client request None method = refl
  same_way client request (Some number) None = refl
  same_way client request (Some number) (Some method) = same_object_way client request method (object_of table number)

  same_if_asked : (b : Bool) (one other : List Sent) → frames_of one ≡ frames_of other → frames_of (if b then [] else one) ≡ frames_of (if b then [] else other)
  same_if_asked true one other h = refl
  same_if_asked false one other h = h

  same_done : (client : Client) (request : Frame) → frames_of (done table client request) ≡ frames_of (done (with table place calls) client request)
  same_done client request = same_if_asked (is_set request.no_reply) _ _ refl

  same_with : (client : Client) (request : Frame) (object : ℕ) → placeless (with_call table (call_on table client request object)) ≡ placeless (with_call (with table place calls) (call_on (with table place calls) client request object))
  same_with client request object = ap (λ cs. with table 0 cs) (alike_append table.calls calls (call_on table client request object ∷ []) (call_on (with table place calls) client request object ∷ []) alike refl)

  same_forwarded : (b : Bool) (client : Client) (request : Frame) (object : ℕ) → placeless (if b then table else with_call table (call_on table client request object))
      ≡ placeless (if b then with table place calls else with_call (with table place calls) (call_on (with table place calls) client request object))
  same_forwarded true client request object = ap (λ cs. with table 0 cs) alike
  same_forwarded false client request object = same_with client request object

  same_goes : (client : Client) (request : Frame) (way : Way) → IsSameButPlaces (goes fits table client request way) (goes fits (with table place calls) client request way)
  same_goes client request (refusal reason) = same_steps table (with table place calls) _ _ (ap (λ cs. with table 0 cs) alike)
      (same_if_asked (is_set request.no_reply) _ _ (same_append (data_of fits client.number request reason) (data_of fits client.number request reason) _ _ refl refl))
  same_goes client request (registration new) =
      same_steps (record table { registrations = with_registration table.registrations new }) (record (with table place calls) { registrations = with_registration table.registrations new }) _ _
      (ap (λ cs. with (record table { registrations = with_registration table.registrations new }) 0 cs) alike) (same_done client request)
  same_goes client request (sends id values) = same_steps table (with table place calls) _ _ (ap (λ cs. with table 0 cs) alike)
      (same_append (events_sent fits table client.number id values) (events_sent fits table client.number id values) _ _ refl (same_done client request))
  same_goes client request (forwards object) = record { table = same_forwarded (is_set request.no_reply) client request object.number; sent = refl; local = refl }
  same_goes client request (hands_out object) = record { table = same_with client request object.number; sent = refl; local = refl }

  same_invokes : (client : Client) (request : Frame) → IsSameButPlaces (invokes fits table client request) (invokes fits (with table place calls) client request)
  same_invokes client request = subst (λ way. IsSameButPlaces (invokes fits table client request) (goes fits (with table place calls) client request way)) (same_way client request request.id request.method)
      (same_goes client request (way_of fits table client request))

  same_said : (client : Client) (message : Frame) → IsSameButPlaces (said fits table client message) (said fits (with table place calls) client message)
  same_said client message =
      same_if (message.kind == STATUS) _ _ _ _ (same_status_passed client.number message _ _ (alike_find (is_answered table client.number message) (looks_answered table client.number message) table.calls calls alike))
      (same_if (message.kind == DATA) _ _ _ _ (same_data_passed message _ _ (alike_find (is_answered table client.number message) (looks_answered table client.number message) table.calls calls alike))
      (same_if (message.kind == PING) _ _ _ _ (same_says table place calls _ alike)
      (same_if (message.kind == LOOKUP) _ _ _ _ (same_told_of client.number message (asked_for table message.path))
      (same_if (message.kind == INVOKE) _ _ _ _ (same_invokes client message)
      (same_if (message.kind == ADD_OBJECT) _ _ _ _ (same_adds client message)
      (same_if (message.kind == REMOVE_OBJECT) _ _ _ _ (same_removes_named client message message.id)
      (same_if (message.kind == SUBSCRIBE) _ _ _ _ (same_subscribes_named client message message.id message.target)
      (same_if (message.kind == UNSUBSCRIBE) _ _ _ _ (same_unsubscribes_named client message message.id message.target)
      (same_if (message.kind == NOTIFY) _ _ _ _ (same_notifies_named client message message.id message.method)
      (same_refuses client.number message (numbered 1)))))))))))

  same_said_by : (found : Option Client) (message : Frame) → IsSameButPlaces (said_by fits table found message) (said_by fits (with table place calls) found message)
  same_said_by None message = same_says table place calls [] alike
  same_said_by (Some client) message = same_said client message

  same_replied : (p : Call → Bool) → Looks p → (code : ℕ) (payload : Option (List Attr)) (found other : Option Call) → option_map without_place found ≡ option_map without_place other
      → IsSameButPlaces (replied_to fits table p code payload found) (replied_to fits (with table place calls) p code payload other)
  same_replied p looks code payload None None h = same_says table place calls [] alike
  same_replied p looks code payload None (Some call) h = absurd (cc h)
  same_replied p looks code payload (Some call) None h = absurd (cc h)
  same_replied p looks code payload (Some one) (Some other) h =
      same_steps (record table { calls = without_first p table.calls }) (record (with table place calls) { calls = without_first p calls }) _ _
      (ap (λ cs. with table 0 cs) (alike_rest p looks table.calls calls alike))
      (replied_out one ∙ (ap reply_out h ∙ sym (replied_out other)))
    where
      reply_out : Option Call → List Outgoing
      reply_out None = []
      reply_out (Some call) = frames_of (if is_connected table call.caller && not call.no_reply then reply_sent fits call code payload else [])

      by_reply : (b : Bool) (call : Call) → frames_of (if b then reply_sent fits call code payload else []) ≡ frames_of (if b then reply_sent fits (without_place call) code payload else [])
      by_reply true call = same_append (data_sent fits call.caller (reply_data call payload)) (data_sent fits call.caller (reply_data (without_place call) payload)) _ _ (by_data payload) (by_last payload)
        where
          by_data : (payload : Option (List Attr)) → frames_of (data_sent fits call.caller (reply_data call payload)) ≡ frames_of (data_sent fits call.caller (reply_data (without_place call) payload))
          by_data None = refl
          by_data (Some attrs) = refl

          by_last : (payload : Option (List Attr)) → frames_of (told (Some (reply_status fits code (reply_data call payload))) call ∷ [])
              ≡ frames_of (told (Some (reply_status fits code (reply_data (without_place call) payload))) (without_place call) ∷ [])
          by_last None = refl
          by_last (Some attrs) = refl
      by_reply false call = refl

      replied_out : (call : Call) → frames_of (if is_connected table call.caller && not call.no_reply then reply_sent fits call code payload else []) ≡ reply_out (option_map without_place (Some call))
      replied_out call = by_reply (is_connected table call.caller && not call.no_reply) call

-- steps that follow one another
same_objects_left : (fits : Frame → Bool) (table other : Table) (numbers : List ℕ) → placeless table ≡ placeless other → IsSameButPlaces (objects_left fits table numbers) (objects_left fits other numbers)
same_objects_left fits table other [] same = same_steps table other [] [] same refl
same_objects_left fits table other (number ∷ numbers) same =
    let first : IsSameButPlaces (object_left fits table number) (object_left fits other number) =
    subst (λ t. IsSameButPlaces (object_left fits table number) (object_left fits t number)) (as_with table other same) (same_object_left fits table other.place other.calls (alike_calls table other same) number) in
    let rest = same_objects_left fits (object_left fits table number).table (object_left fits other number).table numbers first.table in
    record { table = rest.table; sent = same_append _ _ _ _ first.sent rest.sent; local = rest.local }

same_left : (fits : Frame → Bool) (table : Table) (place : ℕ) (calls : List Call) → Alike table.calls calls → (client : ℕ) → IsSameButPlaces (left fits table client) (left fits (with table place calls) client)
same_left fits table place calls alike client = same_if (is_connected table client) _ _ _ _
    (let gone = same_objects_left fits (without_client table client) (without_client (with table place calls) client) (numbers_of table client)
    (ap (λ cs. with (without_client table client) 0 cs) (alike_filter (λ call. not (is_forgotten client call)) (λ call. refl) table.calls calls alike)) in
    record {
      table = gone.table;
      sent = others_out client _ ∙ (ap (filter (λ (o : Outgoing). not (o.0 == client))) gone.sent ∙ sym (others_out client _));
      local = gone.local;
    })
    (same_says table place calls [] alike)

same_happened : (fits : Frame → Bool) (table : Table) (place : ℕ) (calls : List Call) → Alike table.calls calls → (event : BusEvent) → IsSameButPlaces (happened fits table event) (happened fits (with table place calls) event)
same_happened fits table place calls alike (connect user group) = same_if (is_full table) _ _ _ _
    (same_says table place calls [] alike)
    (same_says (record table { clients = table.clients ++ record { number = table.next_client; user = user; group = group } ∷ []; next_client = table.next_client + 1 }) place calls _ alike)
same_happened fits table place calls alike (frame client message) = same_said_by fits table place calls alike (client_of table client) message
same_happened fits table place calls alike (leave client) = same_left fits table place calls alike client
same_happened fits table place calls alike (local_reply caller seq object code payload) =
    same_replied fits table place calls alike (is_handed_out caller seq object) (λ call. refl) code payload _ _ (alike_find (is_handed_out caller seq object) (λ call. refl) table.calls calls alike)

-- a step does the same whatever the places
pub same_served : (fits : Frame → Bool) (table other : Table) (event : BusEvent) → placeless table ≡ placeless other → IsSameButPlaces (served fits table event) (served fits other event)
same_served fits table other event same =
    let h : IsSameButPlaces (happened fits table event) (happened fits other event) =
    subst (λ t. IsSameButPlaces (happened fits table event) (happened fits t event)) (as_with table other same) (same_happened fits table other.place other.calls (alike_calls table other same) event) in
    record { table = h.table; sent = h.sent; local = h.local }
