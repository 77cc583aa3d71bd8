-- What an INVOKE does to the open calls.
use Rattle.std.proofs.Common.{arith, ◌≡◌, ◌+◌, ◌≤◌, ℕ, List, [], ◌∷◌, ◌++◌, Bool, true, false, refl, ap, sym, subst, ◌∙◌}
use Rattle.std.specs.Prelude.{Option, Some, None, if◌then◌else◌, ◌==◌, ◌&&◌, not, unwrap_or}
use Rattle.std.specs.List.{find, flat_map}
use Rattle.std.proofs.lemmas.Bool.{eqb-true}
use Rattle.blob_codec.specs.declared.blob.Attr.{Attr}
use Rattle.ubus_frames.specs.declared.frame.Frame.{Frame}
use Rattle.ubus_acl.specs.Acl.{may_call}
use Rattle.ubus_table.specs.Table.{Table, Client, Object, Registration, Call, no_client, event_object, typed, has_number, object_of, owner_of, path_of}
use Rattle.ubus_table.specs.Frames.{Sent, STATUS, where_fits, to_owner, is_set, status_reply}
use Rattle.ubus_table.specs.Refusal.{Refusal, numbered, denial, data_of, status_of, refused, refused_if_asked, Step, says}
use Rattle.ubus_table.specs.Calls.{is_named, is_open, passed_on, call_on}
use Rattle.ubus_table.specs.Events.{Event, bad, registered, event, event_of, event_frame, events_sent, listeners}
use Rattle.ubus_table.specs.Invoked.{Way, refusal, registration, sends, forwards, hands_out, event_way, open_way, object_way, named_way, way_of, done, with_call, goes, invokes}
use Rattle.ubus_table.specs.Run.{count_of, statuses, open_count, is_over}
use Rattle.ubus_table.proofs.CountLemmas.{bit, at_most_one, count_append, not_any, count_same, first_passes}
use Rattle.ubus_table.proofs.PlainLemmas.{tagged, tagged_where, tagged_owner, tagged_each, tagged_denial, none_for}
use Rattle.ubus_table.proofs.StepLemmas.{is_other, others, is_astray, astray, none_astray_for, statuses_append, Orderly}
use Rattle.ubus_table.proofs.MessageLemmas.{Opens, counted, opens_none, opens_one}

-- of an INVOKE that goes on, the object has the number, and no call with its name is open
abbrev pub Fine : Table → Client → Frame → ℕ → Way → Type 0
Fine table client request number (refusal reason) = Unit {0}
Fine table client request number (registration new) = Unit {0}
Fine table client request number (sends id values) = Unit {0}
Fine table client request number (forwards object) = (is_open table.calls client.number request.seq ≡ false) × (object.number ≡ number)
Fine table client request number (hands_out object) = (is_open table.calls client.number request.seq ≡ false) × (object.number ≡ number)

fine_if : (b : Bool) (table : Table) (client : Client) (request : Frame) (number : ℕ) (x y : Way) → Fine table client request number x → (b ≡ false → Fine table client request number y)
    → Fine table client request number (if b then x else y)
fine_if true table client request number x y e f = e
fine_if false table client request number x y e f = f refl

fine_event : (table : Table) (client : Client) (request : Frame) (number : ℕ) (what : Event) → Fine table client request number (event_way what)
fine_event table client request number (bad reason) = tt
fine_event table client request number (registered new) = tt
fine_event table client request number (event id values) = tt

fine_object : (fits : Frame → Bool) (table : Table) (client : Client) (request : Frame) (number : ℕ) (method : List ℕ) (found : Option Object) → ((object : Object) → found ≡ Some object → object.number ≡ number)
    → Fine table client request number (object_way fits table client request method found)
fine_object fits table client request number method None is = tt
fine_object fits table client request number method (Some object) is = fine_if (object.number == event_object.number) table client request number _ _
    (fine_event table client request number (event_of table client method (unwrap_or request.payload [])))
    (λ _. fine_if (not (may_call client.user client.group (path_of object) method table.acl)) table client request number _ _ tt
    (λ _. fine_if (is_open table.calls client.number request.seq) table client request number _ _ tt
    (λ free. fine_if (object.owner == no_client) table client request number _ _ (free, is object refl)
    (λ _. fine_if (not (is_set request.no_reply) && not (fits (passed_on client request object.number))) table client request number _ _ tt
    (λ _. (free, is object refl))))))

pub number_found : (table : Table) (number : ℕ) (object : Object) → object_of table number ≡ Some object → object.number ≡ number
number_found table number object h = eqb-true object.number number (first_passes (has_number number) (event_object ∷ typed table) object h)

fine_named : (fits : Frame → Bool) (table : Table) (client : Client) (request : Frame) (id : Option ℕ) (method : Option (List ℕ)) → Fine table client request (unwrap_or id 0) (named_way fits table client request id method)
fine_named fits table client request None method = tt
fine_named fits table client request (Some number) None = tt
fine_named fits table client request (Some number) (Some method) = fine_object fits table client request number method (object_of table number) (number_found table number)

pub fine : (fits : Frame → Bool) (table : Table) (client : Client) (request : Frame) → Fine table client request (unwrap_or request.id 0) (way_of fits table client request)
fine fits table client request = fine_named fits table client request request.id request.method

-- An INVOKE is refused, or opens its call. One with NO_REPLY may do less.
pub record Opened (table : Table) (call : Call) (s : Step) : Type 0 where
  pub most : (i : ℕ) → statuses i s.sent + open_count i s.table.calls ≤ open_count i table.calls + bit (call.place == i)
  pub kept : (i : ℕ) → open_count i table.calls ≤ statuses i s.sent + open_count i s.table.calls
  pub least : (i : ℕ) → call.no_reply ≡ false → open_count i table.calls + bit (call.place == i) ≤ statuses i s.sent + open_count i s.table.calls
  pub addressed : (one : Call) → one.caller ≡ call.caller → one.seq ≡ call.seq → astray one s.sent ≡ 0
  pub elsewhere : (one : Call) → call.place == one.place ≡ false → astray one s.sent ≡ 0
  pub fewer : (q : Call → Bool) → count_of q s.table.calls ≤ count_of q table.calls + bit (q call)
  pub alone : (caller seq : ℕ) → 1 ≤ count_of (is_named caller seq) table.calls → count_of (is_named caller seq) s.table.calls ≤ count_of (is_named caller seq) table.calls
  pub once : open_count call.place table.calls ≡ 0 → 1 ≤ open_count call.place s.table.calls → count_of (is_named call.caller call.seq) s.table.calls ≤ 1
  pub same : s.table.place ≡ table.place
  pub clients : s.table.clients ≡ table.clients

-- plain frames, and then the STATUS of this message
abbrev one_status : List Sent → ℕ → ℕ → Frame → ℕ → List Sent
one_status before place client request code = before ++ record { to = client; frame = status_reply request code; place = Some place } ∷ []

statuses_once : (before : List Sent) (place client : ℕ) (request : Frame) (code i : ℕ) → tagged before ≡ 0 → statuses i (one_status before place client request code) ≡ bit (place == i)
statuses_once before place client request code i none =
    let sum = statuses_append i before (record { to = client; frame = status_reply request code; place = Some place } ∷ []) in
    let zero = none_for i before none in
    omega (arith, sum, zero)

itself : (n : ℕ) → n == n ≡ true
itself n = grind arith

addressed_once : (before : List Sent) (place client : ℕ) (request : Frame) (code : ℕ) (one : Call) → tagged before ≡ 0 → one.caller ≡ client → one.seq ≡ request.seq → astray one (one_status before place client request code) ≡ 0
addressed_once before place client request code one none caller seq =
    let last : Sent = record { to = client; frame = status_reply request code; place = Some place } in
    let sum = count_append (is_astray one) before (last ∷ []) in
    let zero = none_astray_for one before (none_for one.place before none) in
    let to = ap (λ n. client == n) caller ∙ itself client in
    let with = ap (λ n. request.seq == n) seq ∙ itself request.seq in
    let this : bit (is_astray one last) ≡ 0 = grind (arith, to, with) in
    omega (arith, sum, zero, this)

elsewhere_once : (before : List Sent) (place client : ℕ) (request : Frame) (code : ℕ) (one : Call) → tagged before ≡ 0 → place == one.place ≡ false → astray one (one_status before place client request code) ≡ 0
elsewhere_once before place client request code one none apart =
    let all = statuses_once before place client request code one.place none in
    none_astray_for one (one_status before place client request code) (all ∙ ap bit apart)

-- the STATUS is sent at once, where a reply is asked for
opened_answered : (table now : Table) (call : Call) (client : ℕ) (request : Frame) (code : ℕ) (before : List Sent) (b : Bool) → call.no_reply ≡ b → call.caller ≡ client → call.seq ≡ request.seq
    → now.calls ≡ table.calls → now.place ≡ table.place → now.clients ≡ table.clients → tagged before ≡ 0
    → (sent : List Sent) → sent ≡ (if b then before else one_status before call.place client request code) → Opened table call (says now sent)
opened_answered table now call client request code before true silent caller seq calls same clients none sent is = record {
  most = λ i. let h = ap (statuses i) is ∙ none_for i before none in let stay = ap (open_count i) calls in omega (arith, h, stay);
  kept = λ i. let stay = ap (open_count i) calls in omega (arith, stay);
  least = λ i asks. absurd (let e = sym silent ∙ asks in cc);
  addressed = λ one c n. ap (astray one) is ∙ none_astray_for one before (none_for one.place before none);
  elsewhere = λ one apart. ap (astray one) is ∙ none_astray_for one before (none_for one.place before none);
  fewer = λ q. let stay = ap (count_of q) calls in omega (arith, stay);
  alone = λ c n some. let stay = ap (count_of (is_named c n)) calls in omega (arith, stay);
  once = λ zero some. let stay = ap (open_count call.place) calls in absurd (omega (arith, zero, some, stay));
  same = same;
  clients = clients;
}
opened_answered table now call client request code before false asking caller seq calls same clients none sent is = record {
  most = λ i. let h = ap (statuses i) is ∙ statuses_once before call.place client request code i none in let stay = ap (open_count i) calls in omega (arith, h, stay);
  kept = λ i. let stay = ap (open_count i) calls in omega (arith, stay);
  least = λ i asks. let h = ap (statuses i) is ∙ statuses_once before call.place client request code i none in let stay = ap (open_count i) calls in omega (arith, h, stay);
  addressed = λ one c n. ap (astray one) is ∙ addressed_once before call.place client request code one none (c ∙ caller) (n ∙ seq);
  elsewhere = λ one apart. ap (astray one) is ∙ elsewhere_once before call.place client request code one none apart;
  fewer = λ q. let stay = ap (count_of q) calls in omega (arith, stay);
  alone = λ c n some. let stay = ap (count_of (is_named c n)) calls in omega (arith, stay);
  once = λ zero some. let stay = ap (open_count call.place) calls in absurd (omega (arith, zero, some, stay));
  same = same;
  clients = clients;
}

-- the call is open
opened_call : (table now : Table) (call : Call) (sent : List Sent) → is_open table.calls call.caller call.seq ≡ false → call.place ≡ table.place → now.calls ≡ table.calls ++ call ∷ [] → now.place ≡ table.place → now.clients ≡ table.clients
    → tagged sent ≡ 0
    → (local : _) → Opened table call (record { table = now; sent = sent; local = local })
opened_call table now call sent free here calls same clients none local =
    let opens = opens_one table call [] here free (opens_none table) in
    record {
      most = λ i. let h = none_for i sent none in let sum = counted (λ (c : Call). c.place == i) table (call ∷ []) now.calls calls in omega (arith, h, sum);
      kept = λ i. let sum = counted (λ (c : Call). c.place == i) table (call ∷ []) now.calls calls in omega (arith, sum);
      least = λ i asks. let sum = counted (λ (c : Call). c.place == i) table (call ∷ []) now.calls calls in omega (arith, sum);
      addressed = λ one c n. none_astray_for one sent (none_for one.place sent none);
      elsewhere = λ one apart. none_astray_for one sent (none_for one.place sent none);
      fewer = λ q. let sum = counted q table (call ∷ []) now.calls calls in omega (arith, sum);
      alone = λ c n some. let sum = counted (is_named c n) table (call ∷ []) now.calls calls in let zero = opens.free c n some in omega (arith, sum, zero);
      once = λ zero some.
          let sum = counted (is_named call.caller call.seq) table (call ∷ []) now.calls calls in
          let nothing = not_any (is_named call.caller call.seq) table.calls free in
          let few = at_most_one (is_named call.caller call.seq call) in
          omega (arith, sum, nothing, few);
      same = same;
      clients = clients;
    }

-- nothing is opened, since no reply is asked for
opened_nothing : (table : Table) (call : Call) (sent : List Sent) → call.no_reply ≡ true → tagged sent ≡ 0 → Opened table call (says table sent)
opened_nothing table call sent silent none = record {
  most = λ i. let h = none_for i sent none in omega (arith, h);
  kept = λ i. omega arith;
  least = λ i asks. absurd (let e = sym silent ∙ asks in cc);
  addressed = λ one c n. none_astray_for one sent (none_for one.place sent none);
  elsewhere = λ one apart. none_astray_for one sent (none_for one.place sent none);
  fewer = λ q. omega arith;
  alone = λ c n some. omega arith;
  once = λ zero some. absurd (omega (arith, zero, some));
  same = refl;
  clients = refl;
}

opened_forwarded : (table : Table) (call : Call) (sent : List Sent) (b : Bool) → call.no_reply ≡ b → is_open table.calls call.caller call.seq ≡ false → call.place ≡ table.place → tagged sent ≡ 0
    → Opened table call (says (if b then table else with_call table call) sent)
opened_forwarded table call sent true silent free here none = opened_nothing table call sent silent none
opened_forwarded table call sent false asking free here none = opened_call table (with_call table call) call sent free here refl refl refl none None

done_is : (table : Table) (client : Client) (request : Frame) (before : List Sent) (b : Bool) → is_set request.no_reply ≡ b → before ++ done table client request
    ≡ (if b then before else one_status before table.place client.number request 0)
done_is table client request before true e = rw e (nothing before)
  where
    nothing : (sent : List Sent) → sent ++ [] ≡ sent
    nothing [] = refl
    nothing (s ∷ sent) = ap (λ more. s ∷ more) (nothing sent)
done_is table client request before false e = rw e refl

events_plain : (fits : Frame → Bool) (table : Table) (sender : ℕ) (id : List ℕ) (values : List Attr) → tagged (events_sent fits table sender id values) ≡ 0
events_plain fits table sender id values =
    tagged_each (λ object. to_owner fits (owner_of table object) (event_frame id values object)) (λ object. tagged_owner fits (owner_of table object) (event_frame id values object)) (listeners table sender id)

pub opened_goes : (fits : Frame → Bool) (table : Table) (client : Client) (request : Frame) (number : ℕ) (way : Way) → Fine table client request number way
    → Opened table (call_on table client request number) (goes fits table client request way)
opened_goes fits table client request number (refusal reason) f = refused_by (is_set request.no_reply) refl
  where
    refused_by : (b : Bool) → is_set request.no_reply ≡ b → Opened table (call_on table client request number) (says table (if b then [] else refused fits (Some table.place) client.number request reason))
    refused_by true e = opened_nothing table (call_on table client request number) [] e refl
    refused_by false e = opened_answered table table (call_on table client request number) client.number request (status_of reason) (data_of fits client.number request reason) false e refl refl refl refl refl
        (tagged_denial fits client.number request reason) _ refl
opened_goes fits table client request number (registration new) f =
    opened_answered table _ (call_on table client request number) client.number request 0 [] (is_set request.no_reply) refl refl refl refl refl refl refl _ (done_is table client request [] (is_set request.no_reply) refl)
opened_goes fits table client request number (sends id values) f =
    opened_answered table table (call_on table client request number) client.number request 0 (events_sent fits table client.number id values) (is_set request.no_reply) refl refl refl refl refl refl
    (events_plain fits table client.number id values) _ (done_is table client request (events_sent fits table client.number id values) (is_set request.no_reply) refl)
opened_goes fits table client request number (forwards object) f =
    subst (λ n. Opened table (call_on table client request n) (goes fits table client request (forwards object))) f.1
    (opened_forwarded table (call_on table client request object.number) _ (is_set request.no_reply) refl f.0 refl (tagged_where fits object.owner (passed_on client request object.number)))
opened_goes fits table client request number (hands_out object) f =
    subst (λ n. Opened table (call_on table client request n) (goes fits table client request (hands_out object))) f.1
    (opened_call table (with_call table (call_on table client request object.number)) (call_on table client request object.number) [] f.0 refl refl refl refl refl _)

-- the call of an INVOKE
abbrev pub call_of : Table → Client → Frame → Call
call_of table client request = call_on table client request (unwrap_or request.id 0)

pub opened_invokes : (fits : Frame → Bool) (table : Table) (client : Client) (request : Frame) → Opened table (call_of table client request) (invokes fits table client request)
opened_invokes fits table client request = opened_goes fits table client request (unwrap_or request.id 0) (way_of fits table client request) (fine fits table client request)

pub opened_step : (table : Table) (call : Call) (s : Step) → call.place ≡ table.place → Opened table call s → Orderly table s
opened_step table call s here o = record {
  ledger = λ i apart. let h = o.most i in let bits = ap bit (ap (λ n. n == i) here ∙ apart) in omega (arith, h, bits);
  addressed = λ one apart.
      let h = o.elsewhere one (ap (λ n. n == one.place) here ∙ apart) in
      let more = o.fewer (is_other one.place one.caller one.seq one.object) in
      let bits = ap (λ n. n == one.place) here ∙ apart in
      let zero : bit (is_other one.place one.caller one.seq one.object call) ≡ 0 = grind (arith, bits) in
      omega (arith, h, more, zero);
  fewer = λ q not_here. let h = o.fewer q in let zero = ap bit (not_here call here) in omega (arith, h, zero);
  alone = o.alone;
  same = o.same;
}
