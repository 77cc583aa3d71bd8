-- What a step of the code did.
use Rattle.std.proofs.Common.{ℕ, ◌≡◌, ◌+◌, ◌==◌, List, [], ◌∷◌, ◌++◌, get_or, Bool, true, false, not, Option, Some, None, refl, sym, ap, ◌∙◌}
use Rattle.std.specs.Prelude.{if◌then◌else◌, ◌&&◌, filter, remove}
use Rattle.std.specs.List.{find, position}
use Rattle.blob_codec.specs.declared.blob.Attr.{Attr}
use Rattle.ubus_frames.specs.declared.frame.Frame.{Frame}
use Rattle.ubus_table.specs.declared.rows.LocalCall.{LocalCall}
use Rattle.ubus_table.specs.Table.{Table, Call, client_of, is_connected}
use Rattle.ubus_table.specs.declared.rows.Client.{Client}
use Rattle.ubus_table.specs.Frames.{Sent, plain, hello}
use Rattle.ubus_table.specs.Refusal.{Step, says}
use Rattle.ubus_table.specs.Objects.{object_left}
use Rattle.ubus_table.specs.Clients.{is_full, connected, without_client, numbers_of, objects_left, to_others, left, is_handed_out, reply_sent, replied_to}
use Rattle.ubus_table.specs.Served.{counted, said, said_by, served, connect, frame, leave, local_reply}
use Rattle.ubus_send.specs.declared.outbox.Outgoing.{Outgoing}
use Rattle.ubus_send.specs.Fits.{fits}
use Rattle.ubus_send.specs.Out.{outgoing, out_of}
use Rattle.ubus_state.specs.Among.{calls_but}
use Rattle.ubus_state.proofs.ListLemmas.{FirstAt, first_at, first_none, filter_of_map}
use Rattle.ubus_state.proofs.CallLemmas.{without_first_at}
use Rattle.ubus_state.specs.declared.leaving.Leaving.{Leaving}
use Rattle.ubus_state.specs.Change.{changed}
use Rattle.ubus_state.specs.Leaving.{partly, all_left, Leaves}
use Rattle.ubus_requests.specs.declared.plan.Plan.{Plan}
use Rattle.ubus_requests.specs.Plan.{Plans}
use Rattle.ubus_broker.specs.Did.{Did}

-- nothing is sent to a client that leaves
others_out : (client : ℕ) (sent : List Sent) → out_of (filter (λ (s : Sent). not (s.to == client)) sent) ≡ filter (λ (o : Outgoing). not (o.client == client)) (out_of sent)
others_out client sent = sym (filter_of_map (λ (o : Outgoing). not (o.client == client)) outgoing sent)

zero_is : (table : Table) → table.place ≡ 0 → table ≡ record table { place = 0 }
zero_is table h = ap (λ (p : ℕ). record table { place = p }) h

pub did_counted : (step : Step) (now : Table) (out : List Outgoing) (call : Option LocalCall) → now.place ≡ 0 → now ≡ step.table → out ≡ out_of step.sent → call ≡ step.local → Did (counted step) now out call
did_counted step now out call first table sent handed = record {
  table = zero_is now first ∙ ap (λ (t : Table). record t { place = 0 }) table;
  sent = sent;
  handed = handed;
}

-- a step that comes to another one
did_as : (step other : Step) (now : Table) (out : List Outgoing) (call : Option LocalCall) → step ≡ other → now.place ≡ 0 → now ≡ other.table → out ≡ out_of other.sent → call ≡ other.local → Did (counted step) now out call
did_as step other now out call same first table sent handed =
    did_counted step now out call first (table ∙ sym (ap (λ (s : Step). s.table) same)) (sent ∙ sym (ap (λ (s : Step). out_of s.sent) same)) (handed ∙ sym (ap (λ (s : Step). s.local) same))

pub frame_did : (table now : Table) (client : ℕ) (row : Client) (message : Frame) (plan : Plan) → now.place ≡ 0 → client_of table client ≡ Some row
    → Plans (said fits table row message) table plan → now ≡ changed table plan.change → Did (served fits table (frame client message)) now plan.out plan.call
frame_did table now client row message plan first there plans made =
    did_as (said_by fits table (client_of table client) message) (said fits table row message) now plan.out plan.call
    (ap (λ (r : Option Client). said_by fits table r message) there) first (made ∙ plans.table) plans.sent plans.handed

pub connect_did : (table now : Table) (user group : List ℕ) (out : List Outgoing) → now.place ≡ 0 → is_full table ≡ false
    → now ≡ record table { clients = table.clients ++ record { number = table.next_client; user = user; group = group } ∷ []; next_client = table.next_client + 1 }
    → out ≡ out_of (plain table.next_client (hello table.next_client) ∷ []) → Did (served fits table (connect user group)) now out None
connect_did table now user group out first room made sent =
    let joined = says (record table { clients = table.clients ++ record { number = table.next_client; user = user; group = group } ∷ []; next_client = table.next_client + 1 }) (plain table.next_client (hello table.next_client) ∷ []) in
    did_as (connected table user group) joined now out None (ap (λ b. if b then says table [] else joined) room) first made sent refl

pub leave_did : (table now : Table) (client : ℕ) (leaving : Leaving) (out : List Outgoing) → now.place ≡ 0 → is_connected table client ≡ true → Leaves table client leaving
    → now ≡ partly (without_client table client) leaving.numbers.items leaving.subscriptions (calls_but leaving.numbers.items (without_client table client).calls)
    → out ≡ filter (λ (o : Outgoing). not (o.client == client)) leaving.out → Did (served fits table (leave client)) now out None
leave_did table now client leaving out first there leaves made sent =
    let step = to_others client (all_left table client) in
    did_as (left fits table client) step now out None (ap (λ b. if b then step else says table []) there) first (made ∙ leaves.table)
    (sent ∙ ap (filter (λ (o : Outgoing). not (o.client == client))) leaves.sent ∙ sym (others_out client (all_left table client).sent))
    (sym (none_handed (without_client table client) (numbers_of table client)))
  where
    none_handed : (t : Table) (numbers : List ℕ) → (objects_left fits t numbers).local ≡ None
    none_handed t [] = refl
    none_handed t (number ∷ numbers) = none_handed (object_left fits t number).table numbers

pub reply_did : (table now : Table) (caller seq object status : ℕ) (payload : Option (List Attr)) (k : ℕ) (call : Call) (out : List Outgoing) → now.place ≡ 0
    → position (is_handed_out caller seq object) table.calls ≡ Some k → call ≡ get_or table.calls k call
    → now ≡ record table { calls = remove table.calls k }
    → out ≡ out_of (if is_connected table call.caller && not call.no_reply then reply_sent fits call status payload else [])
    → Did (served fits table (local_reply caller seq object status payload)) now out None
reply_did table now caller seq object status payload k call out first at is made sent =
    let p : Call → Bool = is_handed_out caller seq object in
    let f : FirstAt p table.calls k = first_at p table.calls k at in
    let found : find p table.calls ≡ Some call = f.found call ∙ ap Some (sym is) in
    did_as (replied_to fits table p status payload (find p table.calls)) (replied_to fits table p status payload (Some call)) now out None
    (ap (replied_to fits table p status payload) found) first
    (made ∙ ap (λ (cs : List Call). record table { calls = cs }) (sym (without_first_at p table.calls k at))) sent refl

pub no_reply_did : (table : Table) (caller seq object status : ℕ) (payload : Option (List Attr)) → table.place ≡ 0
    → position (is_handed_out caller seq object) table.calls ≡ None → Did (served fits table (local_reply caller seq object status payload)) table [] None
no_reply_did table caller seq object status payload first at =
    let p : Call → Bool = is_handed_out caller seq object in
    did_as (replied_to fits table p status payload (find p table.calls)) (says table []) table [] None
    (ap (replied_to fits table p status payload) (first_none p table.calls at)) first refl refl refl

pub not_false : (b : Bool) → not b ≡ false → b ≡ true
not_false true h = refl
not_false false h = sym h
