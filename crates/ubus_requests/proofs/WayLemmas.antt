-- Which way an INVOKE goes.
use Rattle.std.proofs.Common.{ℕ, ◌≡◌, ◌==◌, List, [], Bool, true, false, not, Some, ap, ◌∙◌}
use Rattle.std.specs.Prelude.{◌&&◌, if◌then◌else◌, codes, unwrap_or}
use Rattle.blob_codec.specs.declared.blob.Attr.{Attr}
use Rattle.ubus_frames.specs.declared.frame.Frame.{Frame}
use Rattle.ubus_acl.specs.Acl.{may_call, may_listen, may_send}
use Rattle.ubus_table.specs.Table.{Table, no_client, event_object, same_text, path_of}
use Rattle.ubus_table.specs.declared.rows.Client.{Client}
use Rattle.ubus_table.specs.declared.rows.Object.{Object}
use Rattle.ubus_table.specs.Frames.{is_set}
use Rattle.ubus_table.specs.Refusal.{numbered, denial}
use Rattle.ubus_table.specs.Arguments.{number_argument, text_argument, table_argument}
use Rattle.ubus_table.specs.Calls.{is_open, passed_on}
use Rattle.ubus_table.specs.Events.{Event, bad, registered, event, event_of, registers_with, registers_found, sends_with}
use Rattle.ubus_table.specs.Invoked.{Way, refusal, forwards, hands_out, event_way, object_way, open_way}
use Rattle.ubus_requests.proofs.PlanLemmas.{taken, passed}

pub way_event : (fits : Frame → Bool) (table : Table) (client : Client) (request : Frame) (method : List ℕ) (object : Object) → (object.number == event_object.number) ≡ true
    → object_way fits table client request method (Some object) ≡ event_way (event_of table client method (unwrap_or request.payload []))
way_event fits table client request method object is = taken _ is

pub way_denied : (fits : Frame → Bool) (table : Table) (client : Client) (request : Frame) (method : List ℕ) (object : Object) → (object.number == event_object.number) ≡ false
    → may_call client.user client.group (path_of object) method table.acl ≡ false
    → object_way fits table client request method (Some object) ≡ refusal (denial method (path_of object))
way_denied fits table client request method object is may = passed _ is ∙ taken _ (ap not may)

pub way_open : (fits : Frame → Bool) (table : Table) (client : Client) (request : Frame) (method : List ℕ) (object : Object) → (object.number == event_object.number) ≡ false
    → may_call client.user client.group (path_of object) method table.acl ≡ true → is_open table.calls client.number request.seq ≡ true
    → object_way fits table client request method (Some object) ≡ refusal (numbered 2)
way_open fits table client request method object is may used = passed _ is ∙ (passed _ (ap not may) ∙ taken _ used)

pub way_free : (fits : Frame → Bool) (table : Table) (client : Client) (request : Frame) (method : List ℕ) (object : Object) → (object.number == event_object.number) ≡ false
    → may_call client.user client.group (path_of object) method table.acl ≡ true → is_open table.calls client.number request.seq ≡ false
    → object_way fits table client request method (Some object) ≡ open_way fits client request object
way_free fits table client request method object is may used = passed _ is ∙ (passed _ (ap not may) ∙ passed _ used)

pub open_local : (fits : Frame → Bool) (client : Client) (request : Frame) (object : Object) → (object.owner == no_client) ≡ true → open_way fits client request object ≡ hands_out object
open_local fits client request object local = taken _ local

pub open_long : (fits : Frame → Bool) (client : Client) (request : Frame) (object : Object) → (object.owner == no_client) ≡ false
    → (not (is_set request.no_reply) && not (fits (passed_on client request object.number))) ≡ true → open_way fits client request object ≡ refusal (numbered 9)
open_long fits client request object local long = passed _ local ∙ taken _ long

pub open_short : (fits : Frame → Bool) (client : Client) (request : Frame) (object : Object) → (object.owner == no_client) ≡ false
    → (not (is_set request.no_reply) && not (fits (passed_on client request object.number))) ≡ false → open_way fits client request object ≡ forwards object
open_short fits client request object local long = passed _ local ∙ passed _ long

pub event_register : (table : Table) (client : Client) (method : List ℕ) (args : List Attr) → same_text method (codes "register") ≡ true
    → event_of table client method args ≡ registers_with table client (number_argument (codes "object") args) (text_argument (codes "pattern") args)
event_register table client method args register = taken _ register

pub event_send : (table : Table) (client : Client) (method : List ℕ) (args : List Attr) → same_text method (codes "register") ≡ false → same_text method (codes "send") ≡ true
    → event_of table client method args ≡ sends_with table client (text_argument (codes "id") args) (table_argument (codes "data") args)
event_send table client method args register send = passed _ register ∙ taken _ send

pub event_unknown : (table : Table) (client : Client) (method : List ℕ) (args : List Attr) → same_text method (codes "register") ≡ false → same_text method (codes "send") ≡ false
    → event_of table client method args ≡ bad (numbered 1)
event_unknown table client method args register send = passed _ register ∙ passed _ send

pub own_denied : (table : Table) (client : Client) (pattern : List ℕ) (object : Object) → not (object.owner == client.number) ≡ true
    → registers_found table client pattern (Some object) ≡ bad (denial (codes "register") (path_of object))
own_denied table client pattern object another = taken _ another

pub own_unheard : (table : Table) (client : Client) (pattern : List ℕ) (object : Object) → not (object.owner == client.number) ≡ false
    → may_listen client.user client.group pattern table.acl ≡ false → registers_found table client pattern (Some object) ≡ bad (denial (codes "listen") pattern)
own_unheard table client pattern object another may = passed _ another ∙ taken _ (ap not may)

pub own_heard : (table : Table) (client : Client) (pattern : List ℕ) (object : Object) → not (object.owner == client.number) ≡ false
    → may_listen client.user client.group pattern table.acl ≡ true → registers_found table client pattern (Some object) ≡ registered (record { object = object.number; pattern = pattern })
own_heard table client pattern object another may = passed _ another ∙ passed _ (ap not may)

pub send_heard : (table : Table) (client : Client) (id : List ℕ) (values : List Attr) → may_send client.user client.group id table.acl ≡ true
    → sends_with table client (Some id) (Some values) ≡ event id values
send_heard table client id values may = taken _ may

pub send_denied : (table : Table) (client : Client) (id : List ℕ) (values : List Attr) → may_send client.user client.group id table.acl ≡ false
    → sends_with table client (Some id) (Some values) ≡ bad (denial (codes "send") id)
send_denied table client id values may = passed _ may
