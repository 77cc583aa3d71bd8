-- What messages that are no INVOKE do to the open calls.
use Rattle.std.proofs.Common.{arith, ◌≡◌, ◌+◌, ◌≤◌, ℕ, List, [], ◌∷◌, ◌++◌, Bool, true, false, refl, ap, sym, ◌∙◌}
use Rattle.std.specs.Prelude.{Option, Some, None, if◌then◌else◌, ◌==◌, filter, map, ◌&&◌, ◌||◌, not, codes, unwrap_or}
use Rattle.std.specs.List.{find, flat_map}
use Rattle.ubus_frames.specs.declared.frame.Frame.{Frame}
use Rattle.ubus_acl.specs.Acl.{may_subscribe}
use Rattle.ubus_table.specs.Table.{Table, Client, Object, Subscription, Call, no_client, object_of, owner_of, is_owned, path_of}
use Rattle.ubus_table.specs.Frames.{Sent, DATA, reply, answer, plain, where_fits, to_owner, with_data, is_set, status_reply, call_data}
use Rattle.ubus_table.specs.Refusal.{Refusal, numbered, denial, Step, says, refuses, refused_if_asked}
use Rattle.ubus_table.specs.Asked.{pinged, looked_up, told_of, asked_for, description}
use Rattle.ubus_table.specs.Subscriptions.{has_subscription, is_alone, without, activity, subscribed, subscribes_both, subscribes_found, subscribes_named, subscribes, unsubscribed, unsubscribes_named, unsubscribes, subscribers_of}
use Rattle.ubus_table.specs.Objects.{is_refused_path, is_unknown_type, may_add, is_full, new_object, object_data, added, adds, object_left, lost_type, removed, removes_found, removes_named, removes, told}
use Rattle.ubus_table.specs.Calls.{is_named, is_open, without_first, passed_on, call_on, reached, opened, told_subscribers, notified, refuses_notify, notifies_found, notifies_named, notifies, is_answered, answered, data_passed, passes_data}
use Rattle.ubus_table.specs.Calls.{status_passed, passes_status}
use Rattle.ubus_table.specs.Run.{count_of, statuses, open_count}
use Rattle.ubus_table.proofs.CountLemmas.{bit, count_append, count_first, some_any, not_any, count_same}
use Rattle.ubus_table.proofs.PlainLemmas.{tagged, tagged_append, tagged_if, tagged_where, tagged_owner, tagged_each, tagged_answered, tagged_refused, tagged_if_asked, none_for}
use Rattle.ubus_table.proofs.StepLemmas.{is_other, others, is_astray, astray, told_astray, none_astray_for, Even, Apart, Orderly, even_apart, even_quiet, even_more, even_object_left, even_if, even_step, step_if, activity_plain}

pub apart_if : (b : Bool) (table : Table) (x y : Step) → Apart table x → Apart table y → Apart table (if b then x else y)
apart_if true table x y e f = e
apart_if false table x y e f = f

-- the table stays, and the frames are plain
pub apart_says : (table : Table) (sent : List Sent) → tagged sent ≡ 0 → Apart table (says table sent)
apart_says table sent none = record { none = none; calls = refl; same = refl; clients = refl }

pub apart_refuses : (fits : Frame → Bool) (table : Table) (client : ℕ) (request : Frame) (reason : Refusal) → Apart table (refuses fits table client request reason)
apart_refuses fits table client request reason = apart_says table _ (tagged_refused fits client request reason)

pub apart_pinged : (fits : Frame → Bool) (table : Table) (client : ℕ) (request : Frame) → Apart table (pinged fits table client request)
apart_pinged fits table client request = apart_says table _ (tagged_answered fits client request (record request { kind = DATA } ∷ []))

apart_told : (fits : Frame → Bool) (table : Table) (client : ℕ) (request : Frame) (objects : List Object) → Apart table (told_of fits table client request objects)
apart_told fits table client request [] = apart_refuses fits table client request (numbered 4)
apart_told fits table client request (object ∷ objects) = apart_says table _ (tagged_answered fits client request (map (description request) (object ∷ objects)))

pub apart_looked_up : (fits : Frame → Bool) (table : Table) (client : ℕ) (request : Frame) → Apart table (looked_up fits table client request)
apart_looked_up fits table client request = apart_told fits table client request (asked_for table request.path)

-- a STATUS of the client's own request, and then plain frames
tagged_after : (client : ℕ) (request : Frame) (code : ℕ) (more : List Sent) → tagged more ≡ 0 → tagged (answer client request code ∷ more) ≡ 0
tagged_after client request code more none = omega (arith, none)

-- subscriptions
apart_subscribed : (fits : Frame → Bool) (table : Table) (client : Client) (request : Frame) (subscription : Subscription) → Apart table (subscribed fits table client request subscription)
apart_subscribed fits table client request subscription = apart_if (has_subscription table.subscriptions subscription) table _ _
    (apart_says table _ refl)
    (record {
      none = tagged_after client.number request 0 _ (tagged_if (is_alone table.subscriptions subscription.target) (activity fits table subscription.target true) [] (activity_plain fits table subscription.target true) refl);
      calls = refl;
      same = refl;
      clients = refl;
    })

apart_subscribes_both : (fits : Frame → Bool) (table : Table) (client : Client) (request : Frame) (subscriber target : Object) → Apart table (subscribes_both fits table client request subscriber target)
apart_subscribes_both fits table client request subscriber target = apart_if (target.owner == no_client) table _ _
    (apart_refuses fits table client.number request (numbered 4))
    (apart_if (not (subscriber.owner == client.number)) table _ _
    (apart_refuses fits table client.number request (denial (codes "subscribe") (path_of subscriber)))
    (apart_if (not (may_subscribe client.user client.group (path_of target) table.acl)) table _ _
    (apart_refuses fits table client.number request (denial (codes "subscribe") (path_of target)))
    (apart_subscribed fits table client request (record { subscriber = subscriber.number; target = target.number }))))

apart_subscribes_found : (fits : Frame → Bool) (table : Table) (client : Client) (request : Frame) (subscriber target : Option Object) → Apart table (subscribes_found fits table client request subscriber target)
apart_subscribes_found fits table client request None target = apart_refuses fits table client.number request (numbered 4)
apart_subscribes_found fits table client request (Some subscriber) None = apart_refuses fits table client.number request (numbered 4)
apart_subscribes_found fits table client request (Some subscriber) (Some target) = apart_subscribes_both fits table client request subscriber target

apart_subscribes_named : (fits : Frame → Bool) (table : Table) (client : Client) (request : Frame) (subscriber target : Option ℕ) → Apart table (subscribes_named fits table client request subscriber target)
apart_subscribes_named fits table client request None target = apart_refuses fits table client.number request (numbered 2)
apart_subscribes_named fits table client request (Some subscriber) None = apart_refuses fits table client.number request (numbered 2)
apart_subscribes_named fits table client request (Some subscriber) (Some target) = apart_subscribes_found fits table client request (object_of table subscriber) (object_of table target)

pub apart_subscribes : (fits : Frame → Bool) (table : Table) (client : Client) (request : Frame) → Apart table (subscribes fits table client request)
apart_subscribes fits table client request = apart_subscribes_named fits table client request request.id request.target

apart_unsubscribed : (fits : Frame → Bool) (table : Table) (client : Client) (request : Frame) (subscription : Subscription) → Apart table (unsubscribed fits table client request subscription)
apart_unsubscribed fits table client request subscription = apart_if (has_subscription table.subscriptions subscription && is_owned table subscription.subscriber client.number) table _ _
    (record {
      none = tagged_after client.number request 0 _ (tagged_if (is_alone (without table.subscriptions subscription) subscription.target) (activity fits table subscription.target false) []
          (activity_plain fits table subscription.target false) refl);
      calls = refl;
      same = refl;
      clients = refl;
    })
    (apart_refuses fits table client.number request (numbered 4))

apart_unsubscribes_named : (fits : Frame → Bool) (table : Table) (client : Client) (request : Frame) (subscriber target : Option ℕ) → Apart table (unsubscribes_named fits table client request subscriber target)
apart_unsubscribes_named fits table client request None target = apart_refuses fits table client.number request (numbered 2)
apart_unsubscribes_named fits table client request (Some subscriber) None = apart_refuses fits table client.number request (numbered 2)
apart_unsubscribes_named fits table client request (Some subscriber) (Some target) = apart_unsubscribed fits table client request (record { subscriber = subscriber; target = target })

pub apart_unsubscribes : (fits : Frame → Bool) (table : Table) (client : Client) (request : Frame) → Apart table (unsubscribes fits table client request)
apart_unsubscribes fits table client request = apart_unsubscribes_named fits table client request request.id request.target

-- objects
pub apart_adds : (fits : Frame → Bool) (table : Table) (client : Client) (request : Frame) → Apart table (adds fits table client request)
apart_adds fits table client request = apart_if (is_refused_path table request.path || is_unknown_type table request.objtype) table _ _
    (apart_refuses fits table client.number request (numbered 2))
    (apart_if (not (may_add table client request.path)) table _ _
    (apart_refuses fits table client.number request (denial (codes "publish") (unwrap_or request.path [])))
    (apart_if (is_full table) table _ _
    (apart_refuses fits table client.number request (numbered 9))
    (record { none = tagged_answered fits client.number request (object_data request (new_object table client request).number (Some (new_object table client request).objtype) ∷ []); calls = refl; same = refl; clients = refl })))

even_removes_found : (fits : Frame → Bool) (table : Table) (client : Client) (request : Frame) (found : Option Object) → Even table (removes_found fits table client request found)
even_removes_found fits table client request None = even_apart table _ (apart_refuses fits table client.number request (numbered 4))
even_removes_found fits table client request (Some object) = even_if (object.owner == client.number) table _ _
    (even_more table (object_left fits table object.number) _ (even_object_left fits table object.number)
    (tagged_answered fits client.number request (object_data request object.number (lost_type (object_left fits table object.number).table object.objtype) ∷ [])))
    (even_apart table _ (apart_refuses fits table client.number request (denial (codes "remove") (path_of object))))

even_removes_named : (fits : Frame → Bool) (table : Table) (client : Client) (request : Frame) (id : Option ℕ) → Even table (removes_named fits table client request id)
even_removes_named fits table client request None = even_apart table _ (apart_refuses fits table client.number request (numbered 2))
even_removes_named fits table client request (Some number) = even_removes_found fits table client request (object_of table number)

pub even_removes : (fits : Frame → Bool) (table : Table) (client : Client) (request : Frame) → Even table (removes fits table client request)
even_removes fits table client request = even_removes_named fits table client request request.id

-- DATA and STATUS
apart_data_passed : (fits : Frame → Bool) (table : Table) (frame : Frame) (found : Option Call) → Apart table (data_passed fits table frame found)
apart_data_passed fits table frame None = apart_says table [] refl
apart_data_passed fits table frame (Some call) = apart_says table _ (tagged_where fits call.caller (call_data call.seq call.object frame.payload))

pub apart_passes_data : (fits : Frame → Bool) (table : Table) (client : ℕ) (frame : Frame) → Apart table (passes_data fits table client frame)
apart_passes_data fits table client frame = apart_data_passed fits table frame (answered table client frame)

even_status_passed : (table : Table) (client : ℕ) (frame : Frame) (found : Option Call) → find (is_answered table client frame) table.calls ≡ found → Even table (status_passed table client frame found)
even_status_passed table client frame None h = even_quiet table
even_status_passed table client frame (Some call) h =
    let p = is_answered table client frame in
    record {
      ledger = λ i. let first = count_first p (λ (c : Call). c.place == i) table.calls call h in omega (arith, first);
      addressed = λ one. let first = count_first p (is_other one.place one.caller one.seq one.object) table.calls call h in let this = told_astray one call frame.status in omega (arith, first, this);
      fewer = λ q. let first = count_first p q table.calls call h in omega (arith, first);
      same = refl;
      clients = refl;
    }

pub even_passes_status : (table : Table) (client : ℕ) (frame : Frame) → Even table (passes_status table client frame)
even_passes_status table client frame = even_status_passed table client frame (answered table client frame) refl

-- Calls that a message opens: all are of this step, and none where its name has an open call.
pub record Opens (table : Table) (calls : List Call) : Type 0 where
  pub here : (i : ℕ) → table.place == i ≡ false → open_count i calls ≡ 0
  pub alike : (q : Call → Bool) → ((call : Call) → call.place ≡ table.place → q call ≡ false) → count_of q calls ≡ 0
  pub free : (caller seq : ℕ) → 1 ≤ count_of (is_named caller seq) table.calls → count_of (is_named caller seq) calls ≡ 0

-- a step that sends plain frames and opens calls
pub record Grows (table : Table) (calls : List Call) (s : Step) : Type 0 where
  pub none : tagged s.sent ≡ 0
  pub calls_are : s.table.calls ≡ table.calls ++ calls
  pub same : s.table.place ≡ table.place
  pub clients : s.table.clients ≡ table.clients

pub counted : (q : Call → Bool) (table : Table) (calls now : List Call) → now ≡ table.calls ++ calls → count_of q now ≡ count_of q table.calls + count_of q calls
counted q table calls now e = ap (count_of q) e ∙ count_append q table.calls calls

other_here : (table : Table) (one : Call) → table.place == one.place ≡ false → (call : Call) → call.place ≡ table.place → is_other one.place one.caller one.seq one.object call ≡ false
other_here table one apart call here = let same = ap (λ n. n == one.place) here in grind (arith, apart, same)

pub orderly_grows : (table : Table) (calls : List Call) (s : Step) → Opens table calls → Grows table calls s → Orderly table s
orderly_grows table calls s o g = record {
  ledger = λ i apart. let h = none_for i s.sent g.none in let sum = counted (λ (c : Call). c.place == i) table calls s.table.calls g.calls_are in let zero = o.here i apart in omega (arith, h, sum, zero);
  addressed = λ one apart.
      let h = none_astray_for one s.sent (none_for one.place s.sent g.none) in
      let sum = counted (is_other one.place one.caller one.seq one.object) table calls s.table.calls g.calls_are in
      let zero = o.alike (is_other one.place one.caller one.seq one.object) (other_here table one apart) in
      omega (arith, h, sum, zero);
  fewer = λ q not_here. let sum = counted q table calls s.table.calls g.calls_are in let zero = o.alike q not_here in omega (arith, sum, zero);
  alone = λ caller seq some. let sum = counted (is_named caller seq) table calls s.table.calls g.calls_are in let zero = o.free caller seq some in omega (arith, sum, zero);
  same = g.same;
}

pub opens_none : (table : Table) → Opens table []
opens_none table = record { here = λ i h. refl; alike = λ q h. refl; free = λ caller seq h. refl }

named_same : (caller seq : ℕ) (call : Call) → is_named caller seq call ≡ true → (x : Call) → is_named caller seq x ≡ is_named call.caller call.seq x
named_same caller seq call h x = grind (arith, h)

-- where no call with its name is open, another name has it not
free_name : (caller seq : ℕ) (table : Table) (call : Call) → is_open table.calls call.caller call.seq ≡ false → 1 ≤ count_of (is_named caller seq) table.calls → is_named caller seq call ≡ false
free_name caller seq table call none some = by_name (is_named caller seq call) refl
  where
    by_name : (b : Bool) → is_named caller seq call ≡ b → is_named caller seq call ≡ false
    by_name true e =
        let zero = not_any (is_named call.caller call.seq) table.calls none in
        let alike = count_same (is_named caller seq) (is_named call.caller call.seq) (named_same caller seq call e) table.calls in
        absurd (omega (arith, zero, alike, some))
    by_name false e = e

pub opens_one : (table : Table) (call : Call) (calls : List Call) → call.place ≡ table.place → is_open table.calls call.caller call.seq ≡ false → Opens table calls → Opens table (call ∷ calls)
opens_one table call calls here none o = record {
  here = λ i apart. let more = o.here i apart in let this = ap bit (ap (λ n. n == i) here ∙ apart) in omega (arith, more, this);
  alike = λ q not_here. let more = o.alike q not_here in let this = ap bit (not_here call here) in omega (arith, more, this);
  free = λ caller seq some. let more = o.free caller seq some in let this = ap bit (free_name caller seq table call none some) in omega (arith, more, this);
}

opens_all : (table : Table) (client : Client) (request : Frame) → is_open table.calls client.number request.seq ≡ false → (objects : List ℕ) → Opens table (map (call_on table client request) objects)
opens_all table client request none [] = opens_none table
opens_all table client request none (object ∷ objects) = opens_one table (call_on table client request object) _ refl none (opens_all table client request none objects)

told_plain : (fits : Frame → Bool) (client : Client) (request : Frame) (object : ℕ) (subscribers : List ℕ) → tagged (told_subscribers fits client request object subscribers) ≡ 0
told_plain fits client request object subscribers = tagged_if (is_set request.no_reply) [] (where_fits fits client.number (record (status_reply request 0) { id = Some object; subscribers = Some subscribers })) refl
    (tagged_where fits client.number (record (status_reply request 0) { id = Some object; subscribers = Some subscribers }))

grows_notified : (fits : Frame → Bool) (table : Table) (client : Client) (request : Frame) (object : ℕ) → Grows table (opened fits table client request (subscribers_of table.subscriptions object)) (notified fits table client request object)
grows_notified fits table client request object =
    let subscribers = subscribers_of table.subscriptions object in
    record {
      none = tagged_append (told_subscribers fits client request object subscribers) _ (told_plain fits client request object subscribers)
          (tagged_each (λ subscriber. to_owner fits (owner_of table subscriber) (passed_on client request subscriber)) (λ subscriber. tagged_owner fits (owner_of table subscriber) (passed_on client request subscriber)) subscribers);
      calls_are = refl;
      same = refl;
      clients = refl;
    }

opens_if : (b : Bool) (table : Table) (calls : List Call) → (b ≡ false → Opens table calls) → Opens table (if b then [] else calls)
opens_if true table calls o = opens_none table
opens_if false table calls o = o refl

only_if_asked : (b open_is : Bool) → (not b && open_is) ≡ false → b ≡ false → open_is ≡ false
only_if_asked true open_is free asks = absurd (cc asks)
only_if_asked false open_is free asks = free

opens_notified : (fits : Frame → Bool) (table : Table) (client : Client) (request : Frame) (objects : List ℕ) → (not (is_set request.no_reply) && is_open table.calls client.number request.seq) ≡ false
    → Opens table (opened fits table client request objects)
opens_notified fits table client request objects free =
    opens_if (is_set request.no_reply) table _ (λ asks. opens_all table client request (only_if_asked (is_set request.no_reply) (is_open table.calls client.number request.seq) free asks) (reached fits client request objects))

-- a NOTIFY sends plain frames, and opens calls of its own
pub record Notifies (table : Table) (s : Step) : Type 0 where
  pub calls : List Call
  pub opens : Opens table calls
  pub grows : Grows table calls s

quiet_notifies : (fits : Frame → Bool) (table : Table) (client : Client) (request : Frame) (reason : Refusal) → Notifies table (refuses_notify fits table client request reason)
quiet_notifies fits table client request reason = record {
  calls = [];
  opens = opens_none table;
  grows = record { none = tagged_if_asked fits client.number request reason; calls_are = nothing table.calls; same = refl; clients = refl };
}
  where
    nothing : (calls : List Call) → calls ≡ calls ++ []
    nothing [] = refl
    nothing (c ∷ cs) = ap (λ more. c ∷ more) (nothing cs)

notifies_if : (b : Bool) (table : Table) (x y : Step) → Notifies table x → Notifies table y → Notifies table (if b then x else y)
notifies_if true table x y e f = e
notifies_if false table x y e f = f

notifies_unless : (b : Bool) (table : Table) (x y : Step) → Notifies table x → (b ≡ false → Notifies table y) → Notifies table (if b then x else y)
notifies_unless true table x y e f = e
notifies_unless false table x y e f = f refl

notifies_by_object : (fits : Frame → Bool) (table : Table) (client : Client) (request : Frame) (found : Option Object) → Notifies table (notifies_found fits table client request found)
notifies_by_object fits table client request None = quiet_notifies fits table client request (numbered 4)
notifies_by_object fits table client request (Some object) = notifies_if (not (object.owner == client.number)) table _ _
    (quiet_notifies fits table client request (denial (codes "notify") (path_of object)))
    (notifies_unless (not (is_set request.no_reply) && is_open table.calls client.number request.seq) table _ _
    (quiet_notifies fits table client request (numbered 2))
    (λ free. record {
      calls = opened fits table client request (subscribers_of table.subscriptions object.number);
      opens = opens_notified fits table client request (subscribers_of table.subscriptions object.number) free;
      grows = grows_notified fits table client request object.number;
    }))

notifies_by_name : (fits : Frame → Bool) (table : Table) (client : Client) (request : Frame) (id : Option ℕ) (method : Option (List ℕ)) → Notifies table (notifies_named fits table client request id method)
notifies_by_name fits table client request None method = quiet_notifies fits table client request (numbered 2)
notifies_by_name fits table client request (Some object) None = quiet_notifies fits table client request (numbered 2)
notifies_by_name fits table client request (Some object) (Some method) = notifies_by_object fits table client request (object_of table object)

pub notifies_is : (fits : Frame → Bool) (table : Table) (client : Client) (request : Frame) → Notifies table (notifies fits table client request)
notifies_is fits table client request = notifies_by_name fits table client request request.id request.method
