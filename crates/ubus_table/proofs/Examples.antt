-- Examples of events, and of what they send.
use Rattle.std.proofs.Common.{rules, ℕ, pos, ◌≡◌, List, [], ◌∷◌, Bool, true, Option, Some, None, refl, codes}
use Rattle.blob_codec.specs.declared.blob.Blob.{Blob, the_lemmas}
use Rattle.blob_codec.specs.declared.blob.Blob.TheVariants.{Str, I32, I8, Table as table_value}
use Rattle.blob_codec.specs.declared.blob.Attr.{Attr}
use Rattle.ubus_frames.specs.declared.frame.Frame.{Frame}
use Rattle.ubus_frames.specs.Frame.{bare}
use Rattle.ubus_acl.specs.declared.acl.Acl.{Acl}
use Rattle.ubus_table.specs.Table.{Table, Client, nobody}
use Rattle.ubus_table.specs.Frames.{Sent, plain}
use Rattle.ubus_table.specs.Refusal.{numbered, denied}
use Rattle.ubus_table.specs.Arguments.{text_of, values_of, number_of}
use Rattle.ubus_table.specs.Events.{bad, registered, event, event_of}
use Rattle.ubus_table.specs.Served.{BusEvent, connect, frame, leave}
use Rattle.ubus_table.specs.Run.{sent_by}

abbrev nothing_allowed : Acl
nothing_allowed = record { records = [] }

abbrev all_fit : Frame → Bool
all_fit message = true

abbrev all_sent : Acl → List BusEvent → List Sent
all_sent acl events = sent_by all_fit (nobody acl) events

-- a STATUS for the INVOKE at a place
abbrev for_place : ℕ → ℕ → Frame → Sent
for_place place to message = record { to = to; frame = message; place = Some place }

-- a LOOKUP of `session`
looked_up : all_sent nothing_allowed (connect (codes "root") (codes "root") ∷ frame 1025 (record (bare 4 1 0) { path = Some (codes "session") }) ∷ [])
    ≡ plain 1025 (bare 0 0 1025)
    ∷ plain 1025 (record (bare 2 1 0) { path = Some (codes "session"); id = Some 2; objtype = Some 2; signature = Some [] })
    ∷ plain 1025 (record (bare 1 1 0) { status = Some 0 }) ∷ []
looked_up = refl

abbrev x_is_1 : List Attr
x_is_1 = record { name = codes "x"; value = I32 (pos 1) } ∷ []

-- the object `demo` is added, and its method `m` invoked
abbrev called : List BusEvent
called = connect (codes "root") (codes "root") ∷ connect (codes "root") (codes "root")
    ∷ frame 1025 (record (bare 6 1 0) { path = Some (codes "demo") })
    ∷ frame 1026 (record (bare 5 5 0) { id = Some 1025; method = Some (codes "m"); payload = Some x_is_1 }) ∷ []

abbrev called_sent : List Sent → List Sent
called_sent more = plain 1025 (bare 0 0 1025) ∷ plain 1026 (bare 0 0 1026)
    ∷ plain 1025 (record (bare 2 1 0) { id = Some 1025; objtype = Some 1025 }) ∷ plain 1025 (record (bare 1 1 0) { status = Some 0 })
    ∷ plain 1025 (record (bare 5 5 1026) { id = Some 1025; method = Some (codes "m"); user = Some (codes "root"); group = Some (codes "root"); payload = Some x_is_1 }) ∷ more

-- its owner answers DATA and STATUS, and leaves: nothing more is sent
abbrev and_then : List BusEvent → List BusEvent → List BusEvent
and_then [] more = more
and_then (first ∷ others) more = first ∷ and_then others more

answered : all_sent nothing_allowed (and_then called (frame 1025 (record (bare 2 5 1026) { payload = Some [] }) ∷ frame 1025 (record (bare 1 5 1026) { status = Some 0 }) ∷ leave 1025 ∷ []))
    ≡ called_sent (plain 1026 (record (bare 2 5 1025) { payload = Some [] }) ∷ for_place 3 1026 (record (bare 1 5 1025) { status = Some 0 }) ∷ [])
answered = refl

-- its owner leaves before: STATUS 10, once
left : all_sent nothing_allowed (and_then called (leave 1025 ∷ leave 1025 ∷ []))
    ≡ called_sent (for_place 3 1026 (record (bare 1 5 1025) { status = Some 10 }) ∷ [])
left = refl

-- another method than the one that is allowed is denied with its reason, and the owner is sent nothing
denied_method : all_sent (record { records = record { user = Some (codes "u"); group = None; access = record { object = codes "demo"; methods = codes "m" ∷ [] } ∷ []; publish = []; subscribe = []; send = []; listen = [] } ∷ [] })
    (connect (codes "root") (codes "") ∷ connect (codes "u") (codes "") ∷ frame 1025 (record (bare 6 1 0) { path = Some (codes "demo") })
    ∷ frame 1026 (record (bare 5 7 0) { id = Some 1025; method = Some (codes "n") }) ∷ [])
    ≡ plain 1025 (bare 0 0 1025) ∷ plain 1026 (bare 0 0 1026)
    ∷ plain 1025 (record (bare 2 1 0) { id = Some 1025; objtype = Some 1025 }) ∷ plain 1025 (record (bare 1 1 0) { status = Some 0 })
    ∷ plain 1026 (record (bare 2 7 0) { payload = Some (denied (codes "n") (codes "demo")) }) ∷ for_place 3 1026 (record (bare 1 7 0) { status = Some 6 }) ∷ []
denied_method = refl

-- values of arguments
text_is : text_of (Str (codes "a")) ≡ Some (codes "a")
text_is = search (rules, the_lemmas)

number_is : number_of (I32 (pos 1025)) ≡ Some (pos 1025)
number_is = search (rules, the_lemmas)

byte_is_none : number_of (I8 (pos 1)) ≡ None
byte_is_none = search (rules, the_lemmas)

table_is : values_of (table_value x_is_1) ≡ Some x_is_1
table_is = search (rules, the_lemmas)
