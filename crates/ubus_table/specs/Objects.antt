-- ADD_OBJECT and REMOVE_OBJECT, and what comes of an object that leaves.
use Rattle.std.specs.Prelude.{ℕ, ◌+◌, ◌==◌, ◌&&◌, ◌||◌, not, nat_lt, nat_le, length, List, [], ◌∷◌, ◌++◌, Bool, true}
use Rattle.std.specs.Prelude.{false, Option, Some, None, map, filter, is_none, unwrap_or, codes, if◌then◌else◌}
use Rattle.std.specs.List.{flat_map}
use Rattle.blob_codec.specs.declared.blob.Attr.{Attr}
use Rattle.ubus_frames.specs.declared.frame.Frame.{Frame}
use Rattle.ubus_acl.specs.Acl.{may_publish}
use Rattle.plane_words.specs.Pattern.{is_nothing}
use Rattle.ubus_table.specs.Table.{Table, Client, Object, Subscription, Registration, Call, has_number, object_of}
use Rattle.ubus_table.specs.Table.{owner_of, of_type, is_taken, path_of, last_number, most_objects}
use Rattle.ubus_table.specs.Frames.{Sent, DATA, reply, to_owner, with_data, gone, call_status}
use Rattle.ubus_table.specs.Refusal.{Refusal, numbered, denial, Step, says, refuses}
use Rattle.ubus_table.specs.Subscriptions.{subscribers_of, targets_of, is_alone, activity}

-- the path is empty, or taken
abbrev pub is_refused_path : Table → Option (List ℕ) → Bool
is_refused_path table None = false
is_refused_path table (Some path) = is_nothing path || is_taken table path

-- the type is one that no object has
abbrev pub is_unknown_type : Table → Option ℕ → Bool
is_unknown_type table None = false
is_unknown_type table (Some objtype) = is_none (of_type table objtype)

-- the client may add an object of this path; without a path nothing is asked
abbrev pub may_add : Table → Client → Option (List ℕ) → Bool
may_add table client None = true
may_add table client (Some path) = may_publish client.user client.group path table.acl

abbrev pub is_full : Table → Bool
is_full table = not (nat_lt (length table.objects) most_objects) || nat_lt last_number table.next_object

-- the signature of a type
abbrev pub signature_in : Option Object → List Attr
signature_in None = []
signature_in (Some object) = object.signature

-- the signature of a new object: its type's, or for a new type the one that is given
abbrev pub new_signature : Table → Frame → Option ℕ → List Attr
new_signature table request None = unwrap_or request.signature []
new_signature table request (Some objtype) = signature_in (of_type table objtype)

-- a new object; without a type that is asked for, its number is its type
abbrev pub new_object : Table → Client → Frame → Object
new_object table client request = record {
  number = table.next_object;
  owner = client.number;
  path = request.path;
  objtype = unwrap_or request.objtype table.next_object;
  signature = new_signature table request request.objtype;
}

-- the number and the type of an object
abbrev pub object_data : Frame → ℕ → Option ℕ → Frame
object_data request number objtype = record (reply DATA request) { id = Some number; objtype = objtype }

abbrev pub added : (Frame → Bool) → Table → Client → Frame → Object → Step
added fits table client request object = says
    (record table { objects = table.objects ++ object ∷ []; next_object = table.next_object + 1 })
    (with_data fits client.number request (object_data request object.number (Some object.objtype) ∷ []))

-- ADD_OBJECT: 2 for a path that is empty or taken, or a type that no object has; 6 where the access list says so; 9
-- where there are 4,096 objects, or the numbers are used up
abbrev pub adds : (Frame → Bool) → Table → Client → Frame → Step
adds fits table client request =
    if is_refused_path table request.path || is_unknown_type table request.objtype
    then refuses fits table client.number request (numbered 2)
    else (if not (may_add table client request.path)
    then refuses fits table client.number request (denial (codes "publish") (unwrap_or request.path []))
    else (if is_full table then refuses fits table client.number request (numbered 9)
    else added fits table client request (new_object table client request)))

abbrev pub is_on : ℕ → Call → Bool
is_on object call = call.object == object

-- the caller is sent the STATUS of its call
abbrev pub told : Option ℕ → Call → Sent
told status call = record { to = call.caller; frame = call_status call.seq call.object status; place = Some call.place }

-- the subscribers of an object that leaves are told
abbrev pub farewells : (Frame → Bool) → Table → ℕ → List Sent
farewells fits table number =
    flat_map (λ subscriber. to_owner fits (owner_of table subscriber) (gone subscriber number))
    (subscribers_of table.subscriptions number)

abbrev pub touches : ℕ → Subscription → Bool
touches number subscription = subscription.subscriber == number || subscription.target == number

-- the subscriptions without those of an object and those to it
abbrev pub untouched : ℕ → List Subscription → List Subscription
untouched number subscriptions = filter (λ subscription. not (touches number subscription)) subscriptions

-- The subscriptions of an object that leaves end. Who has no subscriber any more is told; of the object itself nothing
-- is left.
abbrev pub endings : (Frame → Bool) → Table → ℕ → List Sent
endings fits table number =
    flat_map (λ target. if not (target == number) && is_alone (untouched number table.subscriptions) target
    then activity fits table target false else [])
    (targets_of table.subscriptions number)

-- the table without an object
abbrev pub without_object : Table → ℕ → Table
without_object table number = record table {
  objects = filter (λ object. not (has_number number object)) table.objects;
  subscriptions = untouched number table.subscriptions;
  registrations = filter (λ (r : Registration). not (r.object == number)) table.registrations;
  calls = filter (λ call. not (is_on number call)) table.calls;
}

-- An object leaves. Its open calls get STATUS 10 as they were opened, then its subscribers are told, then its own
-- subscriptions end, then its registrations go.
abbrev pub object_left : (Frame → Bool) → Table → ℕ → Step
object_left fits table number = says (without_object table number)
    (map (told (Some 10)) (filter (is_on number) table.calls)
    ++ (farewells fits table number ++ endings fits table number))

-- the type of an object that left, where no object has it any more
abbrev pub lost_type : Table → ℕ → Option ℕ
lost_type table objtype = if is_none (of_type table objtype) then Some objtype else None

abbrev pub removed : (Frame → Bool) → Table → Client → Frame → Object → Step
removed fits table client request object =
    let left = object_left fits table object.number in
    says left.table
    (left.sent ++ with_data fits client.number request
    (object_data request object.number (lost_type left.table object.objtype) ∷ []))

abbrev pub removes_found : (Frame → Bool) → Table → Client → Frame → Option Object → Step
removes_found fits table client request None = refuses fits table client.number request (numbered 4)
removes_found fits table client request (Some object) =
    if object.owner == client.number then removed fits table client request object
    else refuses fits table client.number request (denial (codes "remove") (path_of object))

abbrev pub removes_named : (Frame → Bool) → Table → Client → Frame → Option ℕ → Step
removes_named fits table client request None = refuses fits table client.number request (numbered 2)
removes_named fits table client request (Some number) = removes_found fits table client request (object_of table number)

-- REMOVE_OBJECT: 2 without OBJID; 4 where it is not there; 6 where it is another's
abbrev pub removes : (Frame → Bool) → Table → Client → Frame → Step
removes fits table client request = removes_named fits table client request request.id
