-- Runs of a broker beside those of the definitions.
use Rattle.std.proofs.Common.{ℕ, ◌≡◌, ◌==◌, List, [], ◌∷◌, ◌++◌, map, Bool, not, Option, Some, None, refl, sym, ap, subst, ◌∙◌, append_assoc}
use Rattle.std.specs.Prelude.{if◌then◌else◌, unwrap_or}
use Rattle.std.proofs.lemmas.List.{map-append}
use Rattle.ubus_frames.specs.declared.frame.Frame.{Frame}
use Rattle.ubus_acl.specs.Acl.{may_call}
use Rattle.ubus_acl.specs.declared.acl.Acl.{Acl}
use Rattle.ubus_table.specs.Table.{Table, client_of, event_object, nobody, object_of, path_of}
use Rattle.ubus_table.specs.declared.rows.Client.{Client}
use Rattle.ubus_table.specs.declared.rows.Object.{Object}
use Rattle.ubus_table.specs.Frames.{Sent}
use Rattle.ubus_table.specs.Refusal.{numbered, denial}
use Rattle.ubus_table.specs.Calls.{is_named}
use Rattle.ubus_table.specs.Events.{event_of}
use Rattle.ubus_table.specs.Invoked.{refusal, event_way, open_way, object_way, named_way, way_of}
use Rattle.ubus_table.specs.Served.{BusEvent, connect, frame, leave, local_reply, served}
use Rattle.ubus_table.specs.Run.{Ends, after, sent_by}
use Rattle.ubus_table.specs.Places.{IsSameButPlaces, frames_of, placeless, without_place}
use Rattle.ubus_send.specs.declared.outbox.Outgoing.{Outgoing}
use Rattle.ubus_send.specs.Fits.{fits}
use Rattle.ubus_send.specs.Out.{out_of, outgoing}
use Rattle.ubus_state.proofs.ListLemmas.{list_any_map}
use Rattle.ubus_broker.specs.Ran.{Ran}

-- that places change nothing
abbrev pub PlacesAreNothing : Type 0
PlacesAreNothing = (fits : Frame → Bool) (table other : Table) (event : BusEvent) → placeless table ≡ placeless other → IsSameButPlaces (served fits table event) (served fits other event)

-- the frames that go out are those of the list
abbrev put : ℕ × Frame → Outgoing
put pair = record { client = pair.0; frame = pair.1 }

out_of_frames : (sent : List Sent) → out_of sent ≡ map put (frames_of sent)
out_of_frames [] = refl
out_of_frames (one ∷ sent) = ap (λ (out : List Outgoing). outgoing one ∷ out) (out_of_frames sent)

same_out : (sent other : List Sent) → frames_of sent ≡ frames_of other → out_of sent ≡ out_of other
same_out sent other same = out_of_frames sent ∙ ap (map put) same ∙ sym (out_of_frames other)

-- a run of the code and one of the definitions, from tables that are the same but for places
pub record Alike (table : Table) (events : List BusEvent) (out : List Outgoing) (now : Table) : Type 0 where
  pub sent : out ≡ out_of (sent_by fits table events)
  pub knows : placeless now ≡ placeless (after fits table events)

pub alike : PlacesAreNothing → (before table : Table) (events : List BusEvent) (out : List Outgoing) (now : Table) → placeless before ≡ placeless table → Ran before events out now → Alike table events out now
alike places before table events out now same (Ran.ended t) = record { sent = refl; knows = same }
alike places before table events out now same (Ran.did b next n event rest sent more call one later) =
    let step : IsSameButPlaces (served fits b event) (served fits table event) = places fits b table event same in
    let known : placeless next ≡ placeless (served fits table event).table = ap placeless one.table ∙ step.table in
    let others : Alike (served fits table event).table rest more n = alike places next (served fits table event).table rest more n known later in
    record {
      sent =
          ap (λ (first : List Outgoing). first ++ more) (one.sent ∙ same_out (served fits b event).sent (served fits table event).sent step.sent)
          ∙ ap (λ (last : List Outgoing). out_of (served fits table event).sent ++ last) others.sent
          ∙ sym (map-append outgoing (served fits table event).sent (sent_by fits (served fits table event).table rest));
      knows = others.knows;
    }

pub sent_alike : PlacesAreNothing → (acl : Acl) (events : List BusEvent) (out : List Outgoing) (now : Table) → Ran (nobody acl) events out now → out ≡ out_of (sent_by fits (nobody acl) events)
sent_alike places acl events out now ran = (alike places (nobody acl) (nobody acl) events out now refl ran).sent

-- one run after another
pub joined : (before middle now : Table) (events more : List BusEvent) (out rest : List Outgoing) → Ran before events out middle → Ran middle more rest now → Ran before (events ++ more) (out ++ rest) now
joined before middle now events more out rest (Ran.ended t) later = later
joined before middle now events more out rest (Ran.did b next m event others sent tail call one ran) later =
    subst (λ (all : List Outgoing). Ran b (event ∷ others ++ more) all now) (sym (append_assoc sent tail rest))
    (Ran.did b next now event (others ++ more) sent (tail ++ rest) call one (joined next m now others more tail rest ran later))

-- what depends on clients and objects alone
pub same_client : (table other : Table) (number : ℕ) → placeless table ≡ placeless other → client_of table number ≡ client_of other number
same_client table other number same = ap (λ (t : Table). client_of t number) same

same_object_way : (table : Table) (client : Client) (message : Frame) (method : List ℕ) (found : Option Object) → object_way fits table client message method found ≡ object_way fits (placeless table) client message method found
same_object_way table client message method None = refl
same_object_way table client message method (Some object) = ap
    (λ b. if object.number == event_object.number then event_way (event_of table client method (unwrap_or message.payload []))
    else (if not (may_call client.user client.group (path_of object) method table.acl) then refusal (denial method (path_of object))
    else (if b then refusal (numbered 2) else open_way fits client message object))) (sym (list_any_map (is_named client.number message.seq) without_place table.calls))

same_named_way : (table : Table) (client : Client) (message : Frame) (id : Option ℕ) (method : Option (List ℕ)) → named_way fits table client message id method ≡ named_way fits (placeless table) client message id method
same_named_way table client message None method = refl
same_named_way table client message (Some number) None = refl
same_named_way table client message (Some number) (Some method) = same_object_way table client message method (object_of table number)

pub same_way : (table other : Table) (client : Client) (message : Frame) → placeless table ≡ placeless other → way_of fits table client message ≡ way_of fits other client message
same_way table other client message same =
    same_named_way table client message message.id message.method
    ∙ ap (λ (t : Table). way_of fits t client message) same
    ∙ sym (same_named_way other client message message.id message.method)

to_placeless : (table : Table) (caller seq object : ℕ) (event : BusEvent) → Ends table caller seq object event → Ends (placeless table) caller seq object event
to_placeless table caller seq object (connect user group) ends = ends
to_placeless table caller seq object (frame sender message) ends = ends
to_placeless table caller seq object (leave leaver) ends = ends
to_placeless table caller seq object (local_reply client number other status payload) ends = ends

from_placeless : (table : Table) (caller seq object : ℕ) (event : BusEvent) → Ends (placeless table) caller seq object event → Ends table caller seq object event
from_placeless table caller seq object (connect user group) ends = ends
from_placeless table caller seq object (frame sender message) ends = ends
from_placeless table caller seq object (leave leaver) ends = ends
from_placeless table caller seq object (local_reply client number other status payload) ends = ends

pub same_ends : (table other : Table) (caller seq object : ℕ) (event : BusEvent) → placeless table ≡ placeless other → Ends table caller seq object event → Ends other caller seq object event
same_ends table other caller seq object event same ends =
    from_placeless other caller seq object event (subst (λ (t : Table). Ends t caller seq object event) same (to_placeless table caller seq object event ends))
