-- The event object: objects register for events, and clients send them.
use Rattle.std.specs.Prelude.{ℕ, ℤ, pos, negsuc, ◌==◌, ◌&&◌, not, List, [], ◌∷◌, ◌++◌, Bool, true, false, Option, Some}
use Rattle.std.specs.Prelude.{None, map, filter, codes, if◌then◌else◌}
use Rattle.std.specs.List.{list_any, flat_map}
use Rattle.std.specs.Ordering.{nat_cmp}
use Rattle.plane_words.specs.InOrder.{ordered}
use Rattle.plane_words.specs.Pattern.{fits_front}
use Rattle.blob_codec.specs.declared.blob.Attr.{Attr}
use Rattle.ubus_frames.specs.declared.frame.Frame.{Frame}
use Rattle.ubus_acl.specs.Acl.{may_listen, may_send}
use Rattle.ubus_table.specs.Table.{Table, Client, Object, Registration, same_text, object_of, owner_of, is_owner}
use Rattle.ubus_table.specs.Table.{path_of}
use Rattle.ubus_table.specs.Frames.{Sent, INVOKE, notice, to_owner}
use Rattle.ubus_table.specs.Refusal.{Refusal, numbered, denial}
use Rattle.ubus_table.specs.Arguments.{number_argument, text_argument, table_argument}

-- what an INVOKE on the event object comes to
pub data Event : Type 0 where
  bad : Refusal → Event
  registered : Registration → Event
  event : List ℕ → List Attr → Event

abbrev pub registers_found : Table → Client → List ℕ → Option Object → Event
registers_found table client pattern None = bad (numbered 4)
registers_found table client pattern (Some object) =
    if not (object.owner == client.number) then bad (denial (codes "register") (path_of object))
    else (if not (may_listen client.user client.group pattern table.acl)
    then bad (denial (codes "listen") pattern)
    else registered (record { object = object.number; pattern = pattern }))

-- no object has a number below 0
abbrev pub object_at : Table → ℤ → Option Object
object_at table (pos number) = object_of table number
object_at table (negsuc number) = None

abbrev pub registers_with : Table → Client → Option ℤ → Option (List ℕ) → Event
registers_with table client None pattern = bad (numbered 2)
registers_with table client (Some number) None = bad (numbered 2)
registers_with table client (Some number) (Some pattern) = registers_found table client pattern (object_at table number)

abbrev pub sends_with : Table → Client → Option (List ℕ) → Option (List Attr) → Event
sends_with table client None values = bad (numbered 2)
sends_with table client (Some id) None = bad (numbered 2)
sends_with table client (Some id) (Some values) =
    if may_send client.user client.group id table.acl then event id values else bad (denial (codes "send") id)

-- `register` takes `object`, a number, and `pattern`, a text; `send` takes `id`, a text, and `data`, a table. 1 for
-- another method; 2 for wrong arguments; 4 where the object is not there; 6 where it is not the caller's, or the access
-- list says so
abbrev pub event_of : Table → Client → List ℕ → List Attr → Event
event_of table client method args =
    if same_text method (codes "register")
    then registers_with table client (number_argument (codes "object") args) (text_argument (codes "pattern") args)
    else (if same_text method (codes "send")
    then sends_with table client (text_argument (codes "id") args) (table_argument (codes "data") args)
    else bad (numbered 1))

abbrev pub same_registration : Registration → Registration → Bool
same_registration one other = one.object == other.object && same_text one.pattern other.pattern

-- a registration is kept once
abbrev pub with_registration : List Registration → Registration → List Registration
with_registration registrations registration =
    if list_any (same_registration registration) registrations then registrations else registrations ++ registration
    ∷ []

-- the event goes to the object: its pattern fits, and its owner is another client than the sender
abbrev pub is_sent : Table → ℕ → List ℕ → Registration → Bool
is_sent table sender id registration =
    fits_front registration.pattern id && not (is_owner sender (owner_of table registration.object))

-- the objects to which an event goes, by rising number, each once
abbrev pub listeners : Table → ℕ → List ℕ → List ℕ
listeners table sender id =
    ordered nat_cmp (map (λ (r : Registration). r.object) (filter (is_sent table sender id) table.registrations))

-- an event as it is sent to an object
abbrev pub event_frame : List ℕ → List Attr → ℕ → Frame
event_frame id values object =
    record (notice INVOKE) { id = Some object; method = Some id; no_reply = Some true; payload = Some values }

abbrev pub events_sent : (Frame → Bool) → Table → ℕ → List ℕ → List Attr → List Sent
events_sent fits table sender id values =
    flat_map (λ object. to_owner fits (owner_of table object) (event_frame id values object))
    (listeners table sender id)
