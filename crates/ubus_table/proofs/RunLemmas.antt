-- Runs of events from the first one on.
use Rattle.std.proofs.Common.{arith, ◌≡◌, ◌≢◌, ◌+◌, ◌≤◌, ◌<◌, ℕ, List, [], ◌∷◌, ◌++◌, Bool, true, false, length, refl, ap, sym, subst, ◌∙◌, append_assoc}
use Rattle.std.specs.Prelude.{Option, Some, None, if◌then◌else◌, ◌&&◌, ◌==◌, not, unwrap_or}
use Rattle.std.specs.List.{find, list_any}
use Rattle.std.proofs.lemmas.Bool.{eqb-true}
use Rattle.ubus_frames.specs.declared.frame.Frame.{Frame}
use Rattle.ubus_acl.specs.declared.acl.Acl.{Acl}
use Rattle.ubus_table.specs.Table.{Table, Client, Call, nobody, client_of, is_connected}
use Rattle.ubus_table.specs.Frames.{Sent, INVOKE, is_set}
use Rattle.ubus_table.specs.Refusal.{Step}
use Rattle.ubus_table.specs.Calls.{is_named}
use Rattle.ubus_table.specs.Invoked.{Way, refusal, registration, sends, forwards, hands_out, way_of, goes, invokes}
use Rattle.ubus_table.specs.Served.{BusEvent, connect, frame, leave, local_reply, said, said_by, happened, served}
use Rattle.ubus_table.specs.Run.{after, sent_by, count_of, statuses, statuses_to, is_status_for, open_count, IsInvoke, Asks, Stays, is_over, Ends}
use Rattle.ubus_table.proofs.CountLemmas.{bit, at_most_one, count_append, count_none}
use Rattle.ubus_table.proofs.StepLemmas.{is_other, others, is_astray, astray, none_astray_for, statuses_append, Orderly}
use Rattle.ubus_table.proofs.InvokeLemmas.{Opened, call_of, opened_invokes, opened_goes, fine}
use Rattle.ubus_table.proofs.EventLemmas.{Remains, step, keeps}
use Rattle.ubus_table.proofs.EndLemmas.{Single, said_invoke, client_number, over}

-- no open call is of a message that is still to come
abbrev pub Fresh : Table → Type 0
Fresh table = (i : ℕ) → table.place ≤ i → open_count i table.calls ≡ 0

elsewhere : (now i : ℕ) → now < i → (call : Call) → call.place ≡ now → call.place == i ≡ false
elsewhere now i later call here = grind (arith, later, here, eqb-true)

apart : (now i : ℕ) → now < i → now == i ≡ false
apart now i later = grind (arith, later, eqb-true)

apart_before : (now i : ℕ) → i < now → now == i ≡ false
apart_before now i later = grind (arith, later, eqb-true)

fresh_nobody : (acl : Acl) → Fresh (nobody acl)
fresh_nobody acl i h = refl

fresh_served : (fits : Frame → Bool) (table : Table) (event : BusEvent) → Fresh table → Fresh (served fits table event).table
fresh_served fits table event fresh i h =
    let s = step fits table event in
    let same = s.same in
    let later : table.place < i = omega (arith, h, same) in
    let fewer = s.fewer (λ (c : Call). c.place == i) (elsewhere table.place i later) in
    let zero = fresh i (omega (arith, later)) in
    omega (arith, fewer, zero)

pub fresh_after : (fits : Frame → Bool) (table : Table) (events : List BusEvent) → Fresh table → Fresh (after fits table events)
fresh_after fits table [] fresh = fresh
fresh_after fits table (event ∷ events) fresh = fresh_after fits (served fits table event).table events (fresh_served fits table event fresh)

now_after : (fits : Frame → Bool) (table : Table) (events : List BusEvent) → (after fits table events).place ≡ table.place + length events
now_after fits table [] = omega arith
now_after fits table (event ∷ events) = let s = step fits table event in let same = s.same in let h = now_after fits (served fits table event).table events in omega (arith, same, h)

pub after_append : (fits : Frame → Bool) (table : Table) (events more : List BusEvent) → after fits table (events ++ more) ≡ after fits (after fits table events) more
after_append fits table [] more = refl
after_append fits table (event ∷ events) more = after_append fits (served fits table event).table events more

pub sent_append : (fits : Frame → Bool) (table : Table) (events more : List BusEvent) → sent_by fits table (events ++ more) ≡ sent_by fits table events ++ sent_by fits (after fits table events) more
sent_append fits table [] more = refl
sent_append fits table (event ∷ events) more =
    ap (λ sent. (served fits table event).sent ++ sent) (sent_append fits (served fits table event).table events more)
    ∙ sym (append_assoc (served fits table event).sent (sent_by fits (served fits table event).table events) (sent_by fits (after fits (served fits table event).table events) more))

pub statuses_joined : (fits : Frame → Bool) (i : ℕ) (table : Table) (events more : List BusEvent) → statuses i (sent_by fits table (events ++ more)) ≡ statuses i (sent_by fits table events)
    + statuses i (sent_by fits (after fits table events) more)
statuses_joined fits i table events more = ap (statuses i) (sent_append fits table events more) ∙ statuses_append i (sent_by fits table events) (sent_by fits (after fits table events) more)

-- a message that was served has no more STATUS to come than open calls
pub no_more : (fits : Frame → Bool) (i : ℕ) (table : Table) (events : List BusEvent) → i < table.place → statuses i (sent_by fits table events) + open_count i (after fits table events).calls ≤ open_count i table.calls
no_more fits i table [] past = omega arith
no_more fits i table (event ∷ events) past =
    let s = step fits table event in
    let same = s.same in
    let ledger = s.ledger i (apart_before table.place i past) in
    let rest = no_more fits i (served fits table event).table events (omega (arith, same, past)) in
    let both = statuses_append i (served fits table event).sent (sent_by fits (served fits table event).table events) in
    omega (arith, ledger, rest, both)

-- one that is still to come has none
pub none_yet : (fits : Frame → Bool) (i : ℕ) (table : Table) (events : List BusEvent) → Fresh table → table.place + length events ≤ i → statuses i (sent_by fits table events) ≡ 0
none_yet fits i table [] fresh future = refl
none_yet fits i table (event ∷ events) fresh future =
    let s = step fits table event in
    let same = s.same in
    let later : table.place < i = omega (arith, future) in
    let ledger = s.ledger i (apart table.place i later) in
    let nothing = fresh i (omega (arith, future)) in
    let rest = none_yet fits i (served fits table event).table events (fresh_served fits table event fresh) (omega (arith, same, future)) in
    let both = statuses_append i (served fits table event).sent (sent_by fits (served fits table event).table events) in
    omega (arith, ledger, nothing, rest, both)

itself : (n : ℕ) → n == n ≡ true
itself n = grind arith

-- the step of an INVOKE
invoked_is : (fits : Frame → Bool) (table : Table) (number : ℕ) (client : Client) (message : Frame) → IsInvoke message → client_of table number ≡ Some client → happened fits table (frame number message) ≡ invokes fits table client message
invoked_is fits table number client message is here = ap (λ found. said_by fits table found message) here ∙ said_invoke fits table client message is

opened_of : (fits : Frame → Bool) (table : Table) (number : ℕ) (client : Client) (message : Frame) → IsInvoke message → client_of table number ≡ Some client
    → Opened table (call_of table client message) (happened fits table (frame number message))
opened_of fits table number client message is here = subst (Opened table (call_of table client message)) (sym (invoked_is fits table number client message is here)) (opened_invokes fits table client message)

-- at its own step an INVOKE has at most one STATUS, or is open
one_step : (fits : Frame → Bool) (table : Table) (number : ℕ) (message : Frame) (found : Option Client) → IsInvoke message → Fresh table → statuses table.place (said_by fits table found message).sent
    + open_count table.place (said_by fits table found message).table.calls ≤ 1
one_step fits table number message None is fresh = let nothing = fresh table.place (omega arith) in omega (arith, nothing)
one_step fits table number message (Some client) is fresh =
    let opened = opened_invokes fits table client message in
    let most = opened.most table.place in
    let nothing = fresh table.place (omega arith) in
    let few = at_most_one (table.place == table.place) in
    subst (λ s. statuses table.place s.sent + open_count table.place s.table.calls ≤ 1) (sym (said_invoke fits table client message is)) (omega (arith, most, nothing, few))

pub one_at_most : (fits : Frame → Bool) (acl : Acl) (earlier later : List BusEvent) (client : ℕ) (message : Frame) → IsInvoke message → statuses (length earlier) (sent_by fits (nobody acl) (earlier ++ frame client message ∷ later)) ≤ 1
one_at_most fits acl earlier later client message is =
    let table = after fits (nobody acl) earlier in
    let event = frame client message in
    let place : table.place ≡ length earlier = (let h = now_after fits (nobody acl) earlier in omega (arith, h)) in
    let fresh = fresh_after fits (nobody acl) earlier (fresh_nobody acl) in
    let before = none_yet fits table.place (nobody acl) earlier (fresh_nobody acl) (omega (arith, place)) in
    let first = one_step fits table client message (client_of table client) is fresh in
    let s = step fits table event in
    let same = s.same in
    let rest = no_more fits table.place (served fits table event).table later (omega (arith, same)) in
    let joined = statuses_joined fits table.place (nobody acl) earlier (event ∷ later) in
    let both = statuses_append table.place (served fits table event).sent (sent_by fits (served fits table event).table later) in
    subst (λ n. statuses n (sent_by fits (nobody acl) (earlier ++ event ∷ later)) ≤ 1) place (omega (arith, before, first, rest, joined, both))

stays_first : (client : ℕ) (event : BusEvent) (events : List BusEvent) → Stays client (event ∷ events) → Remains client event
stays_first client (connect user group) events h = tt
stays_first client (frame sender message) events h = tt
stays_first client (leave leaver) events h = (h.0, tt)
stays_first client (local_reply caller seq object code payload) events h = tt

stays_then : (client : ℕ) (event : BusEvent) (events : List BusEvent) → Stays client (event ∷ events) → Stays client events
stays_then client (connect user group) events h = h
stays_then client (frame sender message) events h = h
stays_then client (leave leaver) events h = h.1
stays_then client (local_reply caller seq object code payload) events h = h

-- while the caller stays, its call is open or has its STATUS, and no other call has its name
pub record Kept (fits : Frame → Bool) (place client seq object : ℕ) (table : Table) (events : List BusEvent) : Type 0 where
  pub least : open_count place table.calls ≤ statuses place (sent_by fits table events) + open_count place (after fits table events).calls
  pub single : Single place client seq object (after fits table events)
  pub here : is_connected (after fits table events) client ≡ true

other_elsewhere : (place client seq object now : ℕ) → place < now → (call : Call) → call.place ≡ now → is_other place client seq object call ≡ false
other_elsewhere place client seq object now past call here = grind (arith, past, here, eqb-true)

others_served : (fits : Frame → Bool) (place client seq object : ℕ) (table : Table) (event : BusEvent) → place < table.place → count_of (is_other place client seq object) table.calls ≡ 0
    → count_of (is_other place client seq object) (served fits table event).table.calls ≡ 0
others_served fits place client seq object table event past none =
    let s = step fits table event in
    let fewer = s.fewer (is_other place client seq object) (other_elsewhere place client seq object table.place past) in
    omega (arith, fewer, none)

-- calls of the place that are no others have the name
all_named : (place client seq object : ℕ) (calls : List Call) → count_of (is_other place client seq object) calls ≡ 0 → open_count place calls ≤ count_of (is_named client seq) calls
all_named place client seq object [] none = omega arith
all_named place client seq object (call ∷ calls) none = let h = all_named place client seq object calls in grind (arith, h, none)

single_served : (fits : Frame → Bool) (place client seq object : ℕ) (table : Table) (event : BusEvent) → place < table.place → Single place client seq object table → Single place client seq object (served fits table event).table
single_served fits place client seq object table event past single = record {
  others = others_served fits place client seq object table event past single.others;
  alone = λ some.
      let s = step fits table event in
      let ledger = s.ledger place (apart_before table.place place past) in
      let before : 1 ≤ open_count place table.calls = omega (arith, ledger, some) in
      let few = single.alone before in
      let named = all_named place client seq object table.calls single.others in
      let stays = s.alone client seq (omega (arith, before, named)) in
      omega (arith, few, stays);
}

pub kept : (fits : Frame → Bool) (place client seq object : ℕ) (table : Table) (events : List BusEvent) → place < table.place → Single place client seq object table → is_connected table client ≡ true → Stays client events
    → Kept fits place client seq object table events
kept fits place client seq object table [] past single here stays = record { least = omega arith; single = single; here = here }
kept fits place client seq object table (event ∷ events) past single here stays =
    let s = step fits table event in
    let same = s.same in
    let k = keeps fits place client seq object table event single.others here (stays_first client event events stays) in
    let rest = kept fits place client seq object (served fits table event).table events (omega (arith, same, past)) (single_served fits place client seq object table event past single) k.stays (stays_then client event events stays) in
    record {
      least =
          let now = k.kept in
          let later = rest.least in
          let both = statuses_append place (served fits table event).sent (sent_by fits (served fits table event).table events) in
          omega (arith, now, later, both);
      single = rest.single;
      here = rest.here;
    }

-- the object that an INVOKE names
abbrev pub object_in : Frame → ℕ
object_in message = unwrap_or message.id 0

-- an INVOKE that asks for a reply, at its step
pub record Asked (fits : Frame → Bool) (table : Table) (number : ℕ) (message : Frame) : Type 0 where
  pub one : statuses table.place (served fits table (frame number message)).sent + open_count table.place (served fits table (frame number message)).table.calls ≡ 1
  pub single : Single table.place number message.seq (object_in message) (served fits table (frame number message)).table
  pub here : is_connected (served fits table (frame number message)).table number ≡ true

not_other : (place client seq object : ℕ) (call : Call) → call.caller ≡ client → call.seq ≡ seq → call.object ≡ object → call.no_reply ≡ false → is_other place client seq object call ≡ false
not_other place client seq object call c s o asks =
    let same_caller = ap (λ n. n == client) c ∙ itself client in
    let same_seq = ap (λ n. n == seq) s ∙ itself seq in
    let same_object = ap (λ n. n == object) o ∙ itself object in
    grind (arith, same_caller, same_seq, same_object, asks)

no_others : (place client seq object : ℕ) (calls : List Call) → open_count place calls ≡ 0 → count_of (is_other place client seq object) calls ≡ 0
no_others place client seq object calls none = count_none (is_other place client seq object) (λ (c : Call). c.place == place) (λ call. grind arith) calls none

connected_is : (table : Table) (number : ℕ) (client : Client) → client_of table number ≡ Some client → is_connected table number ≡ true
connected_is table number client h = among table.clients h
  where
    among : (clients : List Client) → find (λ (c : Client). c.number == number) clients ≡ Some client → list_any (λ (c : Client). c.number == number) clients ≡ true
    among [] e = absurd (cc e)
    among (c ∷ cs) e = let more = among cs in grind (arith, e, more)

pub asked : (fits : Frame → Bool) (table : Table) (number : ℕ) (client : Client) (message : Frame) → Fresh table → Asks message → client_of table number ≡ Some client → Asked fits table number message
asked fits table number client message fresh asks found =
    let opened = opened_of fits table number client message asks.invoke found in
    let none = fresh table.place (omega arith) in
    let at_place = ap bit (itself table.place) in
    let mine = client_number table number client found in
    record {
      one = let most = opened.most table.place in let least = opened.least table.place asks.asks in omega (arith, most, least, none, at_place);
      single = record {
        others =
            let fewer = opened.fewer (is_other table.place number message.seq (object_in message)) in
            let before = no_others table.place number message.seq (object_in message) table.calls none in
            let own = ap bit (not_other table.place number message.seq (object_in message) (call_of table client message) mine refl refl asks.asks) in
            omega (arith, fewer, before, own);
        alone = λ some. subst (λ n. count_of (is_named n message.seq) (served fits table (frame number message)).table.calls ≤ 1) mine (opened.once none some);
      };
      here = subst (λ clients. list_any (λ (c : Client). c.number == number) clients ≡ true) (sym opened.clients) (connected_is table number client found);
    }

-- what is known of a run in which a client asked for a reply, and then stayed
pub record AskedIn (fits : Frame → Bool) (acl : Acl) (place number : ℕ) (message : Frame) (earlier later : List BusEvent) : Type 0 where
  pub one : statuses place (sent_by fits (nobody acl) (earlier ++ frame number message ∷ later)) + open_count place (after fits (nobody acl) (earlier ++ frame number message ∷ later)).calls ≡ 1
  pub single : Single place number message.seq (object_in message) (after fits (nobody acl) (earlier ++ frame number message ∷ later))
  pub here : is_connected (after fits (nobody acl) (earlier ++ frame number message ∷ later)) number ≡ true

pub asked_in : (fits : Frame → Bool) (acl : Acl) (earlier later : List BusEvent) (number : ℕ) (client : Client) (message : Frame) → Asks message → client_of (after fits (nobody acl) earlier) number ≡ Some client → Stays number later
    → AskedIn fits acl (length earlier) number message earlier later
asked_in fits acl earlier later number client message asks found stays =
    let table = after fits (nobody acl) earlier in
    let event = frame number message in
    let next = (served fits table event).table in
    let fresh = fresh_after fits (nobody acl) earlier (fresh_nobody acl) in
    let place : table.place ≡ length earlier = (let h = now_after fits (nobody acl) earlier in omega (arith, h)) in
    let a = asked fits table number client message fresh asks found in
    let s = step fits table event in
    let same = s.same in
    let past : table.place < next.place = omega (arith, same) in
    let k = kept fits table.place number message.seq (object_in message) next later past a.single a.here stays in
    let run = after_append fits (nobody acl) earlier (event ∷ later) in
    let before = none_yet fits table.place (nobody acl) earlier (fresh_nobody acl) (omega (arith, place)) in
    let joined = statuses_joined fits table.place (nobody acl) earlier (event ∷ later) in
    let both = statuses_append table.place (served fits table event).sent (sent_by fits next later) in
    let more = no_more fits table.place next later past in
    let one = a.one in
    let least = k.least in
    subst (λ n. AskedIn fits acl n number message earlier later) place
    (record {
      one = let same_calls = ap (λ t. open_count table.place t.calls) run in omega (arith, before, joined, both, more, one, least, same_calls);
      single = subst (Single table.place number message.seq (object_in message)) (sym run) k.single;
      here = subst (λ t. is_connected t number ≡ true) (sym run) k.here;
    })

pub one_or_open : (fits : Frame → Bool) (acl : Acl) (earlier later : List BusEvent) (number : ℕ) (client : Client) (message : Frame) → Asks message → client_of (after fits (nobody acl) earlier) number ≡ Some client → Stays number later
    → statuses (length earlier) (sent_by fits (nobody acl) (earlier ++ frame number message ∷ later)) + open_count (length earlier) (after fits (nobody acl) (earlier ++ frame number message ∷ later)).calls ≡ 1
one_or_open fits acl earlier later number client message asks found stays = let a = asked_in fits acl earlier later number client message asks found stays in a.one

ends_remain : (table : Table) (client seq object : ℕ) (event : BusEvent) → Ends table client seq object event → Remains client event
ends_remain table client seq object (connect user group) ends = tt
ends_remain table client seq object (frame sender message) ends = tt
ends_remain table client seq object (leave leaver) ends = (ends.2, tt)
ends_remain table client seq object (local_reply caller number other code payload) ends = tt

-- an INVOKE that is over at once opens no call
opens_nothing : (fits : Frame → Bool) (table : Table) (client : Client) (message : Frame) (way : Way) → is_over way ≡ true → (goes fits table client message way).table.calls ≡ table.calls
opens_nothing fits table client message (refusal reason) h = refl
opens_nothing fits table client message (registration new) h = refl
opens_nothing fits table client message (sends id values) h = refl
opens_nothing fits table client message (forwards object) h = absurd (cc h)
opens_nothing fits table client message (hands_out object) h = absurd (cc h)

pub one_at_once : (fits : Frame → Bool) (acl : Acl) (earlier later : List BusEvent) (number : ℕ) (client : Client) (message : Frame) → Asks message → client_of (after fits (nobody acl) earlier) number ≡ Some client
    → is_over (way_of fits (after fits (nobody acl) earlier) client message) ≡ true → statuses (length earlier) (sent_by fits (nobody acl) (earlier ++ frame number message ∷ later)) ≡ 1
one_at_once fits acl earlier later number client message asks found is =
    let table = after fits (nobody acl) earlier in
    let event = frame number message in
    let place : table.place ≡ length earlier = (let h = now_after fits (nobody acl) earlier in omega (arith, h)) in
    let fresh = fresh_after fits (nobody acl) earlier (fresh_nobody acl) in
    let a = asked fits table number client message fresh asks found in
    let one = a.one in
    let step_is = invoked_is fits table number client message asks.invoke found in
    let calls : (happened fits table event).table.calls ≡ table.calls = ap (λ s. s.table.calls) step_is ∙ opens_nothing fits table client message (way_of fits table client message) is in
    let stay = ap (open_count table.place) calls in
    let nothing = fresh table.place (omega arith) in
    let joined = statuses_joined fits table.place (nobody acl) earlier (event ∷ later) in
    let both = statuses_append table.place (served fits table event).sent (sent_by fits (served fits table event).table later) in
    let most = one_at_most fits acl earlier later number message asks.invoke in
    let all = sent_by fits (nobody acl) (earlier ++ event ∷ later) in
    let same_place = ap (λ n. statuses n all) place in
    omega (arith, one, stay, nothing, joined, both, most, same_place)

pub one_at_end : (fits : Frame → Bool) (acl : Acl) (earlier between later : List BusEvent) (event : BusEvent) (number object : ℕ) (client : Client) (message : Frame) → Asks message → message.id ≡ Some object
    → client_of (after fits (nobody acl) earlier) number ≡ Some client → Stays number between → Ends (after fits (nobody acl) (earlier ++ frame number message ∷ between)) number message.seq object event
    → statuses (length earlier) (sent_by fits (nobody acl) (earlier ++ frame number message ∷ between ++ event ∷ later)) ≡ 1
one_at_end fits acl earlier between later event number object client message asks id found stays ends =
    let asking = earlier ++ frame number message ∷ between in
    let place = length earlier in
    let named : object_in message ≡ object = ap (λ i. unwrap_or i 0) id in
    let a : AskedIn fits acl place number message earlier between = asked_in fits acl earlier between number client message asks found stays in
    let table = after fits (nobody acl) asking in
    let single : Single place number message.seq object table = subst (λ o. Single place number message.seq o table) named a.single in
    let zero = over fits place number message.seq object table event single ends in
    let k = keeps fits place number message.seq object table event single.others a.here (ends_remain table number message.seq object event ends) in
    let joined = statuses_joined fits place (nobody acl) asking (event ∷ later) in
    let both = statuses_append place (served fits table event).sent (sent_by fits (served fits table event).table later) in
    let list : asking ++ event ∷ later ≡ earlier ++ (frame number message ∷ (between ++ event ∷ later)) = append_assoc earlier (frame number message ∷ between) (event ∷ later) in
    let most = one_at_most fits acl earlier (between ++ event ∷ later) number message asks.invoke in
    let same_list = ap (λ es. statuses place (sent_by fits (nobody acl) es)) list in
    let one = a.one in
    let kept_then = k.kept in
    omega (arith, zero, joined, both, most, one, kept_then, same_list)

-- none goes astray in a run after it
none_astray : (fits : Frame → Bool) (one : Call) (table : Table) (events : List BusEvent) → one.place < table.place → others one table.calls ≡ 0 → astray one (sent_by fits table events) ≡ 0
none_astray fits one table [] past none = refl
none_astray fits one table (event ∷ events) past none =
    let s = step fits table event in
    let same = s.same in
    let here = s.addressed one (apart_before table.place one.place past) in
    let rest = none_astray fits one (served fits table event).table events (omega (arith, same, past)) (others_served fits one.place one.caller one.seq one.object table event past none) in
    let both = count_append (is_astray one) (served fits table event).sent (sent_by fits (served fits table event).table events) in
    omega (arith, here, none, rest, both)

-- of those that do not go astray each goes to its caller
all_addressed : (one : Call) (sent : List Sent) → astray one sent ≡ 0 → statuses_to one.place one.caller one.seq sent ≡ statuses one.place sent
all_addressed one [] none = refl
all_addressed one (s ∷ sent) none = let h = all_addressed one sent in grind (arith, none, h)

pub addressed_all : (fits : Frame → Bool) (acl : Acl) (earlier later : List BusEvent) (number : ℕ) (client : Client) (message : Frame) → Asks message → client_of (after fits (nobody acl) earlier) number ≡ Some client
    → statuses_to (length earlier) number message.seq (sent_by fits (nobody acl) (earlier ++ frame number message ∷ later)) ≡ statuses (length earlier) (sent_by fits (nobody acl) (earlier ++ frame number message ∷ later))
addressed_all fits acl earlier later number client message asks found =
    let table = after fits (nobody acl) earlier in
    let event = frame number message in
    let next = (served fits table event).table in
    let mine = client_number table number client found in
    let one : Call = record { place = table.place; caller = number; seq = message.seq; object = object_in message; no_reply = false } in
    let fresh = fresh_after fits (nobody acl) earlier (fresh_nobody acl) in
    let place : table.place ≡ length earlier = (let h = now_after fits (nobody acl) earlier in omega (arith, h)) in
    let a = asked fits table number client message fresh asks found in
    let s = step fits table event in
    let same = s.same in
    let past : table.place < next.place = omega (arith, same) in
    let before = none_astray_for one (sent_by fits (nobody acl) earlier) (none_yet fits table.place (nobody acl) earlier (fresh_nobody acl) (omega (arith, place))) in
    let opened = opened_of fits table number client message asks.invoke found in
    let first = opened.addressed one (sym mine) refl in
    let rest = none_astray fits one next later past a.single.others in
    let joined = ap (astray one) (sent_append fits (nobody acl) earlier (event ∷ later)) ∙ count_append (is_astray one) (sent_by fits (nobody acl) earlier) (sent_by fits table (event ∷ later)) in
    let both = count_append (is_astray one) (served fits table event).sent (sent_by fits next later) in
    let all = sent_by fits (nobody acl) (earlier ++ event ∷ later) in
    subst (λ n. statuses_to n number message.seq all ≡ statuses n all) place (all_addressed one all (omega (arith, before, first, rest, joined, both)))
