-- What each event does to the open calls.
use Rattle.std.proofs.Common.{arith, ◌≡◌, ◌≢◌, ◌+◌, ◌≤◌, ℕ, List, [], ◌∷◌, ◌++◌, Bool, true, false, refl, ap, sym, subst, ◌∙◌}
use Rattle.std.specs.Prelude.{Option, Some, None, if◌then◌else◌, ◌&&◌, ◌==◌, filter, not, unwrap_or}
use Rattle.std.specs.List.{find, list_any}
use Rattle.std.proofs.lemmas.Bool.{eqb-true}
use Rattle.blob_codec.specs.declared.blob.Attr.{Attr}
use Rattle.ubus_frames.specs.declared.frame.Frame.{Frame}
use Rattle.ubus_table.specs.Table.{Table, Client, Call, client_of, is_connected}
use Rattle.ubus_table.specs.Frames.{Sent, STATUS, DATA, PING, LOOKUP, INVOKE, ADD_OBJECT, REMOVE_OBJECT, SUBSCRIBE, UNSUBSCRIBE, NOTIFY}
use Rattle.ubus_table.specs.Refusal.{numbered, Step, says, refuses}
use Rattle.ubus_table.specs.Objects.{told}
use Rattle.ubus_table.specs.Calls.{is_named, without_first}
use Rattle.ubus_table.specs.Clients.{is_full, connected, is_forgotten, without_client, objects_left, numbers_of, to_others, left, is_handed_out, reply_data, reply_status, data_sent, reply_sent, replied_to, replied}
use Rattle.ubus_table.specs.Served.{BusEvent, connect, frame, leave, local_reply, said, said_by, happened}
use Rattle.ubus_table.specs.Run.{count_of, is_status_for, statuses, open_count, Stays}
use Rattle.ubus_table.proofs.CountLemmas.{bit, bit_zero, count_append, count_split, count_first, count_both, count_none, count_under, first_passes}
use Rattle.ubus_table.proofs.PlainLemmas.{tagged, tagged_where, none_for}
use Rattle.ubus_table.proofs.StepLemmas.{is_other, others, is_astray, astray, told_astray, none_astray_for, statuses_append, Even, Orderly, even_apart, even_quiet, even_objects_left, even_step, step_if}
use Rattle.ubus_table.proofs.MessageLemmas.{Grows, Opens, counted, orderly_grows, notifies_is, apart_refuses, apart_pinged, apart_looked_up, apart_subscribes, apart_unsubscribes, apart_adds, even_removes, apart_passes_data}
use Rattle.ubus_table.proofs.MessageLemmas.{even_passes_status}
use Rattle.ubus_table.proofs.InvokeLemmas.{Opened, call_of, opened_invokes, opened_step}

-- what is known of a message: it is an INVOKE, a NOTIFY, or another one
pub data Kind (fits : Frame → Bool) (table : Table) (client : Client) (message : Frame) (s : Step) : Type 0 where
  even : Even table s → Kind fits table client message s
  grows : (calls : List Call) → Opens table calls → Grows table calls s → Kind fits table client message s
  opened : Opened table (call_of table client message) s → Kind fits table client message s

kind_if : (b : Bool) (fits : Frame → Bool) (table : Table) (client : Client) (message : Frame) (x y : Step) → Kind fits table client message x → Kind fits table client message y → Kind fits table client message (if b then x else y)
kind_if true fits table client message x y e f = e
kind_if false fits table client message x y e f = f

pub kind_of : (fits : Frame → Bool) (table : Table) (client : Client) (message : Frame) → Kind fits table client message (said fits table client message)
kind_of fits table client message =
    kind_if (message.kind == STATUS) fits table client message _ _ (even (even_passes_status table client.number message))
    (kind_if (message.kind == DATA) fits table client message _ _ (even (even_apart table _ (apart_passes_data fits table client.number message)))
    (kind_if (message.kind == PING) fits table client message _ _ (even (even_apart table _ (apart_pinged fits table client.number message)))
    (kind_if (message.kind == LOOKUP) fits table client message _ _ (even (even_apart table _ (apart_looked_up fits table client.number message)))
    (kind_if (message.kind == INVOKE) fits table client message _ _ (opened (opened_invokes fits table client message))
    (kind_if (message.kind == ADD_OBJECT) fits table client message _ _ (even (even_apart table _ (apart_adds fits table client message)))
    (kind_if (message.kind == REMOVE_OBJECT) fits table client message _ _ (even (even_removes fits table client message))
    (kind_if (message.kind == SUBSCRIBE) fits table client message _ _ (even (even_apart table _ (apart_subscribes fits table client message)))
    (kind_if (message.kind == UNSUBSCRIBE) fits table client message _ _ (even (even_apart table _ (apart_unsubscribes fits table client message)))
    (kind_if (message.kind == NOTIFY) fits table client message _ _ (let n = notifies_is fits table client message in grows n.calls n.opens n.grows)
    (even (even_apart table _ (apart_refuses fits table client.number message (numbered 1)))))))))))))

step_kind : (fits : Frame → Bool) (table : Table) (client : Client) (message : Frame) (s : Step) → Kind fits table client message s → Orderly table s
step_kind fits table client message s (even e) = even_step table s e
step_kind fits table client message s (grows calls o g) = orderly_grows table calls s o g
step_kind fits table client message s (opened o) = opened_step table (call_of table client message) s refl o

step_said : (fits : Frame → Bool) (table : Table) (found : Option Client) (message : Frame) → Orderly table (said_by fits table found message)
step_said fits table None message = even_step table _ (even_quiet table)
step_said fits table (Some client) message = step_kind fits table client message _ (kind_of fits table client message)

step_connected : (table : Table) (user group : List ℕ) → Orderly table (connected table user group)
step_connected table user group = step_if (is_full table) table _ _
    (even_step table _ (even_quiet table))
    (record { ledger = λ i _. omega arith; addressed = λ one _. omega arith; fewer = λ q _. omega arith; alone = λ c n _. omega arith; same = refl })

fewer_sent : (p q : Sent → Bool) (sent : List Sent) → count_of q (filter p sent) ≤ count_of q sent
fewer_sent p q sent = let split = count_split p q sent in omega (arith, split)

step_forgotten : (table : Table) (client : ℕ) (s : Step) → Even (without_client table client) s → Orderly table (to_others client s)
step_forgotten table client s e =
    let others_only = λ (sent : Sent). not (sent.to == client) in
    record {
      ledger = λ i _.
          let h = e.ledger i in
          let split = count_split (is_forgotten client) (λ (c : Call). c.place == i) table.calls in
          let less = fewer_sent others_only (is_status_for i) s.sent in
          omega (arith, h, split, less);
      addressed = λ one _.
          let h = e.addressed one in
          let split = count_split (is_forgotten client) (is_other one.place one.caller one.seq one.object) table.calls in
          let less = fewer_sent others_only (is_astray one) s.sent in
          omega (arith, h, split, less);
      fewer = λ q _. let h = e.fewer q in let split = count_split (is_forgotten client) q table.calls in omega (arith, h, split);
      alone = λ caller seq _. let h = e.fewer (is_named caller seq) in let split = count_split (is_forgotten client) (is_named caller seq) table.calls in omega (arith, h, split);
      same = e.same;
    }

step_left : (fits : Frame → Bool) (table : Table) (client : ℕ) → Orderly table (left fits table client)
step_left fits table client = step_if (is_connected table client) table _ _
    (step_forgotten table client (objects_left fits (without_client table client) (numbers_of table client)) (even_objects_left fits (without_client table client) (numbers_of table client)))
    (even_step table _ (even_quiet table))

data_plain : (fits : Frame → Bool) (to : ℕ) (frames : List Frame) → tagged (data_sent fits to frames) ≡ 0
data_plain fits to [] = refl
data_plain fits to (first ∷ frames) = tagged_where fits to first

-- a reply is a STATUS of its call
pub reply_counts : (fits : Frame → Bool) (call : Call) (code : ℕ) (payload : Option (List Attr)) (i : ℕ) → statuses i (reply_sent fits call code payload) ≡ bit (call.place == i)
reply_counts fits call code payload i =
    let frames = data_sent fits call.caller (reply_data call payload) in
    let last = told (Some (reply_status fits code (reply_data call payload))) call in
    let sum = statuses_append i frames (last ∷ []) in
    let zero = none_for i frames (data_plain fits call.caller (reply_data call payload)) in
    omega (arith, sum, zero)

reply_astray : (fits : Frame → Bool) (call : Call) (code : ℕ) (payload : Option (List Attr)) (one : Call) → astray one (reply_sent fits call code payload) ≤ bit (is_other one.place one.caller one.seq one.object call)
reply_astray fits call code payload one =
    let frames = data_sent fits call.caller (reply_data call payload) in
    let reply = Some (reply_status fits code (reply_data call payload)) in
    let sum = count_append (is_astray one) frames (told reply call ∷ []) in
    let zero = none_astray_for one frames (none_for one.place frames (data_plain fits call.caller (reply_data call payload))) in
    let this = told_astray one call reply in
    omega (arith, sum, zero, this)

step_replied : (fits : Frame → Bool) (table : Table) (p : Call → Bool) (code : ℕ) (payload : Option (List Attr)) (found : Option Call) → find p table.calls ≡ found → Orderly table (replied_to fits table p code payload found)
step_replied fits table p code payload None h = even_step table _ (even_quiet table)
step_replied fits table p code payload (Some call) h = told_if (is_connected table call.caller && not call.no_reply)
  where
    told_if : (b : Bool) → Orderly table (says (record table { calls = without_first p table.calls }) (if b then reply_sent fits call code payload else []))
    told_if true = record {
      ledger = λ i _. let first = count_first p (λ (c : Call). c.place == i) table.calls call h in let counts = reply_counts fits call code payload i in omega (arith, first, counts);
      addressed = λ one _. let first = count_first p (is_other one.place one.caller one.seq one.object) table.calls call h in let this = reply_astray fits call code payload one in omega (arith, first, this);
      fewer = λ q _. let first = count_first p q table.calls call h in omega (arith, first);
      alone = λ caller seq _. let first = count_first p (is_named caller seq) table.calls call h in omega (arith, first);
      same = refl;
    }
    told_if false = record {
      ledger = λ i _. let first = count_first p (λ (c : Call). c.place == i) table.calls call h in omega (arith, first);
      addressed = λ one _. let first = count_first p (is_other one.place one.caller one.seq one.object) table.calls call h in omega (arith, first);
      fewer = λ q _. let first = count_first p q table.calls call h in omega (arith, first);
      alone = λ caller seq _. let first = count_first p (is_named caller seq) table.calls call h in omega (arith, first);
      same = refl;
    }

pub step : (fits : Frame → Bool) (table : Table) (event : BusEvent) → Orderly table (happened fits table event)
step fits table (connect user group) = step_connected table user group
step fits table (frame client message) = step_said fits table (client_of table client) message
step fits table (leave client) = step_left fits table client
step fits table (local_reply caller seq object code payload) = step_replied fits table (is_handed_out caller seq object) code payload _ refl

-- the event is no leave of the client
abbrev pub Remains : ℕ → BusEvent → Type 0
Remains client event = Stays client (event ∷ [])

-- while the caller stays, an open call of it is open, or a STATUS is sent for it
pub record Keeps (place : ℕ) (table : Table) (client : ℕ) (s : Step) : Type 0 where
  pub kept : open_count place table.calls ≤ statuses place s.sent + open_count place s.table.calls
  pub stays : is_connected s.table client ≡ true

keeps_if : (b : Bool) (place : ℕ) (table : Table) (client : ℕ) (x y : Step) → Keeps place table client x → Keeps place table client y → Keeps place table client (if b then x else y)
keeps_if true place table client x y e f = e
keeps_if false place table client x y e f = f

abbrev pub among : List Client → ℕ → Bool
among clients number = list_any (λ (client : Client). client.number == number) clients

even_keeps : (place : ℕ) (table : Table) (client : ℕ) (s : Step) → is_connected table client ≡ true → Even table s → Keeps place table client s
even_keeps place table client s here e = record {
  kept = let h = e.ledger place in omega (arith, h);
  stays = subst (λ clients. among clients client ≡ true) (sym e.clients) here;
}

kind_keeps : (fits : Frame → Bool) (place : ℕ) (table : Table) (client : ℕ) (sender : Client) (message : Frame) (s : Step) → is_connected table client ≡ true → Kind fits table sender message s → Keeps place table client s
kind_keeps fits place table client sender message s here (even e) = even_keeps place table client s here e
kind_keeps fits place table client sender message s here (grows calls o g) = record {
  kept = let sum = counted (λ (c : Call). c.place == place) table calls s.table.calls g.calls_are in omega (arith, sum);
  stays = subst (λ clients. among clients client ≡ true) (sym g.clients) here;
}
kind_keeps fits place table client sender message s here (opened o) = record {
  kept = o.kept place;
  stays = subst (λ clients. among clients client ≡ true) (sym o.clients) here;
}

still_connected : (clients : List Client) (client : ℕ) (other : Client) → among clients client ≡ true → among (clients ++ other ∷ []) client ≡ true
still_connected [] client other h = grind (arith, h)
still_connected (c ∷ cs) client other h = let more = still_connected cs client other in grind (arith, h, more)

others_stay : (clients : List Client) (client leaver : ℕ) → leaver ≢ client → among clients client ≡ true → among (filter (λ (c : Client). not (c.number == leaver)) clients) client ≡ true
others_stay [] client leaver other h = grind (arith, h)
others_stay (c ∷ cs) client leaver other h = let more = others_stay cs client leaver other in grind (arith, h, more, eqb-true)

not_forgotten : (place client seq object leaver : ℕ) → leaver ≢ client → (call : Call) → bit (call.place == place && is_forgotten leaver call) ≤ bit (is_other place client seq object call) + 0
not_forgotten place client seq object leaver other call = grind (arith, other, eqb-true)

forgets_others : (place client seq object leaver : ℕ) → leaver ≢ client → (calls : List Call) → count_of (is_other place client seq object) calls ≡ 0
    → open_count place calls ≤ open_count place (filter (λ call. not (is_forgotten leaver call)) calls)
forgets_others place client seq object leaver other calls none =
    let split = count_split (is_forgotten leaver) (λ (c : Call). c.place == place) calls in
    let both = count_both (λ (c : Call). c.place == place) (is_forgotten leaver) calls in
    let zero = count_none (λ (c : Call). c.place == place && is_forgotten leaver c) (is_other place client seq object) (not_forgotten place client seq object leaver other) calls none in
    omega (arith, split, both, zero)

-- what goes to the caller does not go to another one that leaves
goes_to_caller : (one : Call) (leaver : ℕ) → leaver ≢ one.caller → (s : Sent) → bit (is_status_for one.place s) ≤ bit (is_status_for one.place s && not (s.to == leaver)) + bit (is_astray one s)
goes_to_caller one leaver other s = by_client (s.to == leaver) refl
  where
    by_client : (b : Bool) → s.to == leaver ≡ b → bit (is_status_for one.place s) ≤ bit (is_status_for one.place s && not b) + bit (is_astray one s)
    by_client true e =
        let same = eqb-true s.to leaver e in
        let apart : s.to == one.caller ≡ false = grind (arith, same, other, eqb-true) in
        grind (arith, apart)
    by_client false e = grind arith

all_to_caller : (one : Call) (leaver : ℕ) → leaver ≢ one.caller → (sent : List Sent) → astray one sent ≡ 0 → statuses one.place sent ≤ statuses one.place (filter (λ (s : Sent). not (s.to == leaver)) sent)
all_to_caller one leaver other sent none =
    let under = count_under (is_status_for one.place) (λ s. is_status_for one.place s && not (s.to == leaver)) (is_astray one) (goes_to_caller one leaver other) sent in
    let both = count_both (is_status_for one.place) (λ (s : Sent). not (s.to == leaver)) sent in
    omega (arith, under, both, none)

left_keeps : (fits : Frame → Bool) (place client seq object leaver : ℕ) (table : Table) → leaver ≢ client → count_of (is_other place client seq object) table.calls ≡ 0 → is_connected table client ≡ true
    → Keeps place table client (left fits table leaver)
left_keeps fits place client seq object leaver table other none here = keeps_if (is_connected table leaver) place table client _ _
    (let one : Call = record { place = place; caller = client; seq = seq; object = object; no_reply = false } in
    let gone = without_client table leaver in
    let e = even_objects_left fits gone (numbers_of table leaver) in
    let s = objects_left fits gone (numbers_of table leaver) in
    record {
      kept =
          let all = forgets_others place client seq object leaver other table.calls none in
          let h = e.ledger place in
          let split = count_split (is_forgotten leaver) (is_other place client seq object) table.calls in
          let right = e.addressed one in
          let straight : astray one s.sent ≡ 0 = omega (arith, right, split, none) in
          let told_all = all_to_caller one leaver other s.sent straight in
          omega (arith, all, h, told_all);
      stays = subst (λ clients. among clients client ≡ true) (sym e.clients) (others_stay table.clients client leaver other here);
    })
    (even_keeps place table client _ here (even_quiet table))

is_told : (place client seq object : ℕ) (table : Table) (call : Call) → is_connected table client ≡ true → is_other place client seq object call ≡ false → bit (call.place == place) ≤ bit (is_connected table call.caller && not call.no_reply)
is_told place client seq object table call here alike = by_caller (call.caller == client) refl
  where
    by_caller : (b : Bool) → call.caller == client ≡ b → bit (call.place == place) ≤ bit (is_connected table call.caller && not call.no_reply)
    by_caller true e = let same = eqb-true call.caller client e in let found : is_connected table call.caller ≡ true = subst (λ c. is_connected table c ≡ true) (sym same) here in grind (arith, e, found, alike)
    by_caller false e = grind (arith, e, alike)

replied_keeps : (fits : Frame → Bool) (place client seq object : ℕ) (table : Table) (p : Call → Bool) (code : ℕ) (payload : Option (List Attr)) (found : Option Call) → find p table.calls ≡ found
    → count_of (is_other place client seq object) table.calls ≡ 0 → is_connected table client ≡ true → Keeps place table client (replied_to fits table p code payload found)
replied_keeps fits place client seq object table p code payload None h none here = even_keeps place table client _ here (even_quiet table)
replied_keeps fits place client seq object table p code payload (Some call) h none here =
    let first = count_first p (is_other place client seq object) table.calls call h in
    let zero : bit (is_other place client seq object call) ≡ 0 = omega (arith, first, none) in
    told_if (is_connected table call.caller && not call.no_reply) (is_told place client seq object table call here (bit_zero _ zero))
  where
    told_if : (b : Bool) → bit (call.place == place) ≤ bit b → Keeps place table client (says (record table { calls = without_first p table.calls }) (if b then reply_sent fits call code payload else []))
    told_if true is = record {
      kept = let first = count_first p (λ (c : Call). c.place == place) table.calls call h in let counts = reply_counts fits call code payload place in omega (arith, first, counts);
      stays = here;
    }
    told_if false is = record {
      kept = let first = count_first p (λ (c : Call). c.place == place) table.calls call h in omega (arith, first, is);
      stays = here;
    }

said_keeps : (fits : Frame → Bool) (place client : ℕ) (table : Table) (found : Option Client) (message : Frame) → is_connected table client ≡ true → Keeps place table client (said_by fits table found message)
said_keeps fits place client table None message here = even_keeps place table client _ here (even_quiet table)
said_keeps fits place client table (Some sender) message here = kind_keeps fits place table client sender message _ here (kind_of fits table sender message)

pub keeps : (fits : Frame → Bool) (place client seq object : ℕ) (table : Table) (event : BusEvent) → count_of (is_other place client seq object) table.calls ≡ 0 → is_connected table client ≡ true → Remains client event
    → Keeps place table client (happened fits table event)
keeps fits place client seq object table (connect user group) none here remains = keeps_if (is_full table) place table client _ _
    (even_keeps place table client _ here (even_quiet table))
    (record { kept = omega arith; stays = still_connected table.clients client _ here })
keeps fits place client seq object table (frame sender message) none here remains = said_keeps fits place client table (client_of table sender) message here
keeps fits place client seq object table (leave leaver) none here remains = left_keeps fits place client seq object leaver table remains.0 none here
keeps fits place client seq object table (local_reply caller number other code payload) none here remains = replied_keeps fits place client seq object table (is_handed_out caller number other) code payload _ refl none here
