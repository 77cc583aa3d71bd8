-- Events with which a call is over.
use Rattle.std.proofs.Common.{arith, ◌≡◌, ◌⊎◌, inl, inr, ◌+◌, ◌≤◌, ℕ, List, [], ◌∷◌, Bool, true, false, refl, ap, sym, subst, ◌∙◌}
use Rattle.std.specs.Prelude.{Option, Some, None, ◌==◌, ◌&&◌, not, filter, if◌then◌else◌}
use Rattle.std.specs.List.{find, list_any}
use Rattle.std.proofs.lemmas.Bool.{eqb-true}
use Rattle.blob_codec.specs.declared.blob.Attr.{Attr}
use Rattle.ubus_frames.specs.declared.frame.Frame.{Frame}
use Rattle.ubus_table.specs.Table.{Table, Client, Object, Call, object_of, client_of, is_connected, is_local, owner_in, is_owner, is_owned}
use Rattle.ubus_table.specs.Frames.{STATUS, DATA, PING, LOOKUP, INVOKE, ADD_OBJECT, REMOVE_OBJECT, SUBSCRIBE, UNSUBSCRIBE, NOTIFY}
use Rattle.ubus_table.specs.Refusal.{numbered, Step, says, refuses}
use Rattle.ubus_table.specs.Asked.{pinged, looked_up}
use Rattle.ubus_table.specs.Subscriptions.{subscribes, unsubscribes}
use Rattle.ubus_table.specs.Objects.{is_on, object_left, adds, removes_found, removes_named, removes}
use Rattle.ubus_table.specs.Calls.{is_named, is_of, is_answered, answered, without_first, status_passed, passes_status, passes_data, notifies}
use Rattle.ubus_table.specs.Invoked.{invokes}
use Rattle.ubus_table.specs.Clients.{is_forgotten, without_client, objects_left, numbers_of, left, is_handed_out, replied_to}
use Rattle.ubus_table.specs.Served.{BusEvent, connect, frame, leave, local_reply, said, said_by, happened}
use Rattle.ubus_table.specs.Run.{count_of, open_count, MessageEnds, Ends}
use Rattle.ubus_table.proofs.CountLemmas.{bit, count_split, count_first, count_under, first_passes, none_passes, none_left}
use Rattle.ubus_table.proofs.StepLemmas.{is_other, even_object_left, even_objects_left}
use Rattle.ubus_table.proofs.InvokeLemmas.{number_found}

-- the client of a number has it
pub client_number : (table : Table) (number : ℕ) (client : Client) → client_of table number ≡ Some client → client.number ≡ number
client_number table number client h = eqb-true client.number number (first_passes (λ (c : Client). c.number == number) table.clients client h)

-- what is said, by the kind of the message
abbrev said_as : (Frame → Bool) → Table → Client → Frame → ℕ → Step
said_as fits table client message kind =
    if kind == STATUS then passes_status table client.number message
    else (if kind == DATA then passes_data fits table client.number message
    else (if kind == PING then pinged fits table client.number message
    else (if kind == LOOKUP then looked_up fits table client.number message
    else (if kind == INVOKE then invokes fits table client message
    else (if kind == ADD_OBJECT then adds fits table client message
    else (if kind == REMOVE_OBJECT then removes fits table client message
    else (if kind == SUBSCRIBE then subscribes fits table client message
    else (if kind == UNSUBSCRIBE then unsubscribes fits table client message
    else (if kind == NOTIFY then notifies fits table client message
    else refuses fits table client.number message (numbered 1))))))))))

pub said_invoke : (fits : Frame → Bool) (table : Table) (client : Client) (message : Frame) → message.kind ≡ INVOKE → said fits table client message ≡ invokes fits table client message
said_invoke fits table client message is = ap (said_as fits table client message) is

said_status : (fits : Frame → Bool) (table : Table) (client : Client) (message : Frame) → message.kind ≡ STATUS → said fits table client message ≡ passes_status table client.number message
said_status fits table client message is = ap (said_as fits table client message) is

said_remove : (fits : Frame → Bool) (table : Table) (client : Client) (message : Frame) → message.kind ≡ REMOVE_OBJECT → said fits table client message ≡ removes fits table client message
said_remove fits table client message is = ap (said_as fits table client message) is

-- a test that tells the call, and which other calls do not pass that have its place
pub record Tells (place client seq object : ℕ) (p : Call → Bool) : Type 0 where
  pub each : (call : Call) → bit (call.place == place) ≤ bit (p call) + bit (is_other place client seq object call)

tells_named : (place client seq object : ℕ) → Tells place client seq object (is_named client seq)
tells_named place client seq object = record { each = λ call. grind arith }

tells_on : (place client seq object : ℕ) → Tells place client seq object (is_on object)
tells_on place client seq object = record { each = λ call. grind arith }

tells_local : (place client seq object : ℕ) → is_local object ≡ true → Tells place client seq object (is_handed_out client seq object)
tells_local place client seq object local = record { each = λ call. by_local call (is_local object) local }
  where
    by_local : (call : Call) (b : Bool) → b ≡ true → bit (call.place == place) ≤ bit (is_named client seq call && (call.object == object && b)) + bit (is_other place client seq object call)
    by_local call true h = grind arith
    by_local call false h = absurd (cc h)

named_of : (id : Option ℕ) (object : ℕ) → (id ≡ None) ⊎ (id ≡ Some object) → (call : Call) → call.object == object ≡ true → is_of id call ≡ true
named_of id object (inl none) call same = subst (λ i. is_of i call ≡ true) (sym none) refl
named_of id object (inr some) call same = subst (λ i. is_of i call ≡ true) (sym some) same

tells_answered : (table : Table) (place client seq object sender : ℕ) (message : Frame) → message.peer ≡ client → message.seq ≡ seq → (message.id ≡ None) ⊎ (message.id ≡ Some object) → is_owned table object sender ≡ true
    → Tells place client seq object (is_answered table sender message)
tells_answered table place client seq object sender message peer number id owned = record {
  each = λ call. by_object call (call.object == object) refl;
}
  where
    by_object : (call : Call) (b : Bool) → call.object == object ≡ b → bit (call.place == place) ≤ bit (is_answered table sender message call) + bit (is_other place client seq object call)
    by_object call true e =
        let same = eqb-true call.object object e in
        let mine : is_owned table call.object sender ≡ true = subst (λ n. is_owned table n sender ≡ true) (sym same) owned in
        let of : is_of message.id call ≡ true = named_of message.id object id call e in
        let name : is_named message.peer message.seq call ≡ is_named client seq call = ap (λ n. is_named n message.seq call) peer ∙ ap (λ n. is_named client n call) number in
        grind (arith, e, mine, of, name)
    by_object call false e = grind (arith, e)

told_none : (place client seq object : ℕ) (p : Call → Bool) → Tells place client seq object p → (calls : List Call) → count_of (is_other place client seq object) calls ≡ 0 → count_of p calls ≡ 0 → open_count place calls ≡ 0
told_none place client seq object p tells calls none zero =
    let under = count_under (λ (c : Call). c.place == place) p (is_other place client seq object) tells.each calls in
    omega (arith, under, none, zero)

none_or_some : (n : ℕ) → (n ≡ 0) ⊎ (1 ≤ n)
none_or_some n = by_zero (n == 0) refl
  where
    by_zero : (b : Bool) → n == 0 ≡ b → (n ≡ 0) ⊎ (1 ≤ n)
    by_zero true e = inl (eqb-true n 0 e)
    by_zero false e = inr (grind (arith, e))

-- the first that passes is the call, since no other has its name
first_over : (place client seq object : ℕ) (p : Call → Bool) → ((call : Call) → p call ≡ true → is_named client seq call ≡ true) → (calls : List Call) (call : Call) → find p calls ≡ Some call
    → count_of (is_other place client seq object) calls ≡ 0 → (1 ≤ open_count place calls → count_of (is_named client seq) calls ≤ 1) → open_count place (without_first p calls) ≡ 0
first_over place client seq object p names calls call h none alone = by_open (none_or_some (open_count place calls))
  where
    by_open : (open_count place calls ≡ 0) ⊎ (1 ≤ open_count place calls) → open_count place (without_first p calls) ≡ 0
    by_open (inl zero) = let first = count_first p (λ (c : Call). c.place == place) calls call h in omega (arith, first, zero)
    by_open (inr some) =
        let named = ap bit (names call (first_passes p calls call h)) in
        let others = count_first p (is_other place client seq object) calls call h in
        let same = count_first p (is_named client seq) calls call h in
        let few = alone some in
        told_none place client seq object (is_named client seq) (tells_named place client seq object) (without_first p calls) (omega (arith, others, none)) (omega (arith, same, named, few))

-- what is known of the call that an event ends
pub record Single (place client seq object : ℕ) (table : Table) : Type 0 where
  pub others : count_of (is_other place client seq object) table.calls ≡ 0
  pub alone : 1 ≤ open_count place table.calls → count_of (is_named client seq) table.calls ≤ 1

passed_over : (place client seq object sender : ℕ) (table : Table) (message : Frame) (p : Call → Bool) → Tells place client seq object p → ((call : Call) → p call ≡ true → is_named client seq call ≡ true) → p
    ≡ is_answered table sender message → (found : Option Call) → find p table.calls ≡ found → Single place client seq object table → open_count place (status_passed table sender message found).table.calls ≡ 0
passed_over place client seq object sender table message p tells names is None h single = told_none place client seq object p tells table.calls single.others (none_passes p table.calls h)
passed_over place client seq object sender table message p tells names is (Some call) h single =
    subst (λ q. open_count place (without_first q table.calls) ≡ 0) is (first_over place client seq object p names table.calls call h single.others single.alone)

replied_over : (fits : Frame → Bool) (place client seq object code : ℕ) (payload : Option (List Attr)) (table : Table) (p : Call → Bool) → Tells place client seq object p → ((call : Call) → p call ≡ true → is_named client seq call ≡ true)
    → (found : Option Call) → find p table.calls ≡ found → Single place client seq object table → open_count place (replied_to fits table p code payload found).table.calls ≡ 0
replied_over fits place client seq object code payload table p tells names None h single = told_none place client seq object p tells table.calls single.others (none_passes p table.calls h)
replied_over fits place client seq object code payload table p tells names (Some call) h single = first_over place client seq object p names table.calls call h single.others single.alone

object_over : (fits : Frame → Bool) (place client seq object : ℕ) (table : Table) → count_of (is_other place client seq object) table.calls ≡ 0 → open_count place (object_left fits table object).table.calls ≡ 0
object_over fits place client seq object table none =
    let split = count_split (is_on object) (is_other place client seq object) table.calls in
    told_none place client seq object (is_on object) (tells_on place client seq object) (filter (λ call. not (is_on object call)) table.calls) (omega (arith, split, none)) (none_left (is_on object) table.calls)

removed_over : (fits : Frame → Bool) (place caller seq object : ℕ) (table : Table) (client : Client) (message : Frame) (found : Option Object) → ((o : Object) → found ≡ Some o → o.number ≡ object) → is_owner client.number (owner_in found)
    ≡ true → count_of (is_other place caller seq object) table.calls ≡ 0 → open_count place (removes_found fits table client message found).table.calls ≡ 0
removed_over fits place caller seq object table client message None is own none = absurd (cc own)
removed_over fits place caller seq object table client message (Some found) is own none =
    rw own (subst (λ n. open_count place (object_left fits table n).table.calls ≡ 0) (sym (is found refl)) (object_over fits place caller seq object table none))

objects_over : (fits : Frame → Bool) (place client seq object : ℕ) (table : Table) (numbers : List ℕ) → list_any (λ n. n == object) numbers ≡ true → count_of (is_other place client seq object) table.calls ≡ 0
    → open_count place (objects_left fits table numbers).table.calls ≡ 0
objects_over fits place client seq object table [] among none = absurd (cc among)
objects_over fits place client seq object table (number ∷ numbers) among none = by_number (number == object) refl (objects_over fits place client seq object (object_left fits table number).table numbers)
  where
    fewer : count_of (is_other place client seq object) (object_left fits table number).table.calls ≡ 0
    fewer = let e = even_object_left fits table number in let h = e.fewer (is_other place client seq object) in omega (arith, h, none)

    by_number : (b : Bool) → number == object ≡ b → (list_any (λ n. n == object) numbers ≡ true → count_of (is_other place client seq object) (object_left fits table number).table.calls ≡ 0
        → open_count place (objects_left fits (object_left fits table number).table numbers).table.calls ≡ 0) → open_count place (objects_left fits (object_left fits table number).table numbers).table.calls ≡ 0
    by_number true e more =
        let same = eqb-true number object e in
        let over : open_count place (object_left fits table number).table.calls ≡ 0 = subst (λ n. open_count place (object_left fits table n).table.calls ≡ 0) (sym same) (object_over fits place client seq object table none) in
        let rest = even_objects_left fits (object_left fits table number).table numbers in
        let h = rest.fewer (λ (c : Call). c.place == place) in
        omega (arith, h, over)
    by_number false e more =
        let later : list_any (λ n. n == object) numbers ≡ true = grind (arith, among, e) in
        more later fewer

left_over : (fits : Frame → Bool) (place client seq object leaver : ℕ) (table : Table) → is_connected table leaver ≡ true → list_any (λ n. n == object) (numbers_of table leaver) ≡ true
    → count_of (is_other place client seq object) table.calls ≡ 0 → open_count place (left fits table leaver).table.calls ≡ 0
left_over fits place client seq object leaver table here owned none =
    let split = count_split (is_forgotten leaver) (is_other place client seq object) table.calls in
    let fewer : count_of (is_other place client seq object) (without_client table leaver).calls ≡ 0 = omega (arith, split, none) in
    rw here (objects_over fits place client seq object (without_client table leaver) (numbers_of table leaver) owned fewer)

answered_named : (table : Table) (sender client seq : ℕ) (message : Frame) → message.peer ≡ client → message.seq ≡ seq → (call : Call) → is_answered table sender message call ≡ true → is_named client seq call ≡ true
answered_named table sender client seq message peer number call h =
    let name : is_named message.peer message.seq call ≡ is_named client seq call = ap (λ n. is_named n message.seq call) peer ∙ ap (λ n. is_named client n call) number in
    grind (arith, h, name)

handed_named : (client seq object : ℕ) (call : Call) → is_handed_out client seq object call ≡ true → is_named client seq call ≡ true
handed_named client seq object call h = by_name (is_named client seq call) (call.object == object && is_local object) h
  where
    by_name : (a b : Bool) → (a && b) ≡ true → a ≡ true
    by_name true b h = refl
    by_name false b h = absurd (cc h)

status_over : (fits : Frame → Bool) (place caller seq object sender : ℕ) (table : Table) (client : Client) (message : Frame) → client.number ≡ sender → is_owned table object sender ≡ true → message.kind ≡ STATUS → message.peer ≡ caller
    → message.seq ≡ seq → (message.id ≡ None) ⊎ (message.id ≡ Some object) → Single place caller seq object table → open_count place (said fits table client message).table.calls ≡ 0
status_over fits place caller seq object sender table client message mine owned kind peer number id single =
    let p = is_answered table client.number message in
    let own : is_owned table object client.number ≡ true = subst (λ n. is_owned table object n ≡ true) (sym mine) owned in
    subst (λ s. open_count place s.table.calls ≡ 0) (sym (said_status fits table client message kind))
    (passed_over place caller seq object client.number table message p (tells_answered table place caller seq object client.number message peer number id own) (answered_named table client.number caller seq message peer number) refl
    (find p table.calls) refl single)

remove_over : (fits : Frame → Bool) (place caller seq object sender : ℕ) (table : Table) (client : Client) (message : Frame) → client.number ≡ sender → is_owned table object sender ≡ true → message.kind ≡ REMOVE_OBJECT → message.id
    ≡ Some object → Single place caller seq object table → open_count place (said fits table client message).table.calls ≡ 0
remove_over fits place caller seq object sender table client message mine owned kind id single =
    let own : is_owned table object client.number ≡ true = subst (λ n. is_owned table object n ≡ true) (sym mine) owned in
    subst (λ s. open_count place s.table.calls ≡ 0) (sym (said_remove fits table client message kind ∙ ap (removes_named fits table client message) id))
    (removed_over fits place caller seq object table client message (object_of table object) (number_found table object) own single.others)

-- who is connected is found
found_client : (clients : List Client) (number : ℕ) → list_any (λ (c : Client). c.number == number) clients ≡ true → (client : Client) × (find (λ (c : Client). c.number == number) clients ≡ Some client)
found_client [] number h = absurd (cc h)
found_client (c ∷ cs) number h = by_number (c.number == number) refl (found_client cs number)
  where
    by_number : (b : Bool) → c.number == number ≡ b → (list_any (λ (c : Client). c.number == number) cs ≡ true → (client : Client) × (find (λ (c : Client). c.number == number) cs ≡ Some client)) → (client : Client)
        × (find (λ (c : Client). c.number == number) (c ∷ cs) ≡ Some client)
    by_number true e more = (c, rw e refl)
    by_number false e more = let later : list_any (λ (c : Client). c.number == number) cs ≡ true = grind (arith, h, e) in let f = more later in (f.0, rw e f.1)

message_over : (fits : Frame → Bool) (place caller seq object sender : ℕ) (table : Table) (message : Frame) → MessageEnds table caller seq object sender message → Single place caller seq object table
    → open_count place (happened fits table (frame sender message)).table.calls ≡ 0
message_over fits place caller seq object sender table message ends single = by_client (found_client table.clients sender ends.0)
  where
    by_client : (client : Client) × (client_of table sender ≡ Some client) → open_count place (said_by fits table (client_of table sender) message).table.calls ≡ 0
    by_client found =
        let mine = client_number table sender found.0 found.1 in
        subst (λ f. open_count place (said_by fits table f message).table.calls ≡ 0) (sym found.1)
        (elim ends.2 as (λ _. open_count place (said fits table found.0 message).table.calls ≡ 0) [
          | inl says ↦ status_over fits place caller seq object sender table found.0 message mine ends.1 says.0 says.1 says.2 says.3 single
          | inr removes ↦ remove_over fits place caller seq object sender table found.0 message mine ends.1 removes.0 removes.1 single
        ])

-- behind such an event the call is not open
pub over : (fits : Frame → Bool) (place caller seq object : ℕ) (table : Table) (event : BusEvent) → Single place caller seq object table → Ends table caller seq object event → open_count place (happened fits table event).table.calls ≡ 0
over fits place caller seq object table (connect user group) single ends = absurd ends
over fits place caller seq object table (frame sender message) single ends = message_over fits place caller seq object sender table message ends single
over fits place caller seq object table (leave leaver) single ends = left_over fits place caller seq object leaver table ends.0 ends.1 single.others
over fits place caller seq object table (local_reply client number other code payload) single ends =
    let p = is_handed_out caller seq object in
    rw ends.0 (rw ends.1 (rw ends.2 (replied_over fits place caller seq object code payload table p (tells_local place caller seq object ends.3) (handed_named caller seq object) (find p table.calls) refl single)))
