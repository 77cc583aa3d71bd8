-- The objects of a client leave one after another.
use Rattle.std.proofs.Common.{ℕ, ◌≡◌, ◌+◌, ◌==◌, List, [], ◌∷◌, ◌++◌, length, take, drop, get_or, Bool, true, false, refl, sym, ap, ◌∙◌}
use Rattle.std.specs.Prelude.{◌<◌, ◌&&◌, ◌||◌, filter, not}
use Rattle.std.proofs.lemmas.List.{take_more}
use Rattle.ubus_table.specs.Table.{Table, Call}
use Rattle.ubus_table.specs.declared.rows.Subscription.{Subscription}
use Rattle.ubus_table.specs.Objects.{object_left, without_object, untouched, is_on}
use Rattle.ubus_table.specs.Clients.{without_client, numbers_of, objects_left}
use Rattle.ubus_send.specs.declared.outbox.Outgoing.{Outgoing}
use Rattle.ubus_send.specs.Fits.{fits}
use Rattle.ubus_send.specs.Out.{out_of}
use Rattle.ubus_send.proofs.OutLemmas.{out_more}
use Rattle.ubus_send.proofs.OrderLemmas.{from_item}
use Rattle.ubus_state.specs.Leaving.{partly, all_left}
use Rattle.ubus_state.specs.Among.{is_among, calls_but}
use Rattle.ubus_state.proofs.ListLemmas.{filter_every, filter_twice}
use Rattle.ubus_state.proofs.LeaveLemmas.{one_more_left, none_left, same_number}

-- before the first object of a client leaves
pub leave_first : (table : Table) (client : ℕ) (numbers : List ℕ) (subscriptions : List Subscription) (calls : List Call)
    → numbers ≡ numbers_of table client → subscriptions ≡ table.subscriptions → calls ≡ (without_client table client).calls
    → objects_left fits (partly (without_client table client) [] subscriptions calls) numbers ≡ all_left table client
leave_first table client numbers subscriptions calls names same still =
    let start = without_client table client in
    ap (objects_left fits (partly start [] subscriptions calls)) names
    ∙ ap (λ (t : Table). objects_left fits t (numbers_of table client))
    (ap (λ (s : List Subscription). partly start [] s calls) same ∙ (ap (λ (cs : List Call). partly start [] start.subscriptions cs) still ∙ none_left start))

-- one more object of a client leaves
pub leave_next : (start : Table) (numbers : List ℕ) (k number : ℕ) (subscriptions later : List Subscription) (calls still : List Call)
    → k < length numbers → number ≡ get_or numbers k number → later ≡ untouched number subscriptions → still ≡ filter (λ call. not (is_on number call)) calls
    → without_object (partly start (take k numbers) subscriptions calls) number ≡ partly start (take (k + 1) numbers) later still
leave_next start numbers k number subscriptions later calls still within is rest calls_left =
    one_more_left start (take k numbers) subscriptions calls number
    ∙ ap (λ (gone : List ℕ). partly start gone (untouched number subscriptions) (filter (λ call. not (is_on number call)) calls))
    (ap (λ (n : ℕ). take k numbers ++ n ∷ []) is ∙ sym (take_more numbers k number within))
    ∙ ap (λ (s : List Subscription). partly start (take (k + 1) numbers) s (filter (λ call. not (is_on number call)) calls)) (sym rest)
    ∙ ap (λ (cs : List Call). partly start (take (k + 1) numbers) later cs) (sym calls_left)

pub leave_table : (now next : Table) (numbers : List ℕ) (k number : ℕ) → k < length numbers → number ≡ get_or numbers k number → without_object now number ≡ next
    → (objects_left fits now (drop k numbers)).table ≡ (objects_left fits next (drop (k + 1) numbers)).table
leave_table now next numbers k number within is made =
    ap (λ (ns : List ℕ). (objects_left fits now ns).table) (from_item numbers k number within is)
    ∙ ap (λ (t : Table). (objects_left fits t (drop (k + 1) numbers)).table) made

pub leave_sent : (now next : Table) (numbers : List ℕ) (k number : ℕ) (out more : List Outgoing) → k < length numbers → number ≡ get_or numbers k number → without_object now number ≡ next
    → more ≡ out ++ out_of (object_left fits now number).sent
    → more ++ out_of (objects_left fits next (drop (k + 1) numbers)).sent ≡ out ++ out_of (objects_left fits now (drop k numbers)).sent
leave_sent now next numbers k number out more within is made told =
    ap (λ (z : List Outgoing). z ++ out_of (objects_left fits next (drop (k + 1) numbers)).sent) told
    ∙ ap (λ (t : Table). out ++ out_of (object_left fits now number).sent ++ out_of (objects_left fits t (drop (k + 1) numbers)).sent) (sym made)
    ∙ sym (out_more out (object_left fits now number).sent (objects_left fits (without_object now number) (drop (k + 1) numbers)).sent)
    ∙ sym (ap (λ (ns : List ℕ). out ++ out_of (objects_left fits now ns).sent) (from_item numbers k number within is))

-- the open calls that are left
neither : (a b : Bool) → not (a || b) ≡ (not a && not b)
neither true b = refl
neither false b = refl

pub calls_left : (table : Table) (numbers : List ℕ) → (objects_left fits table numbers).table.calls ≡ calls_but numbers table.calls
calls_left table [] = sym (filter_every (λ (call : Call). true) (λ call. refl) table.calls)
calls_left table (number ∷ numbers) =
    calls_left (without_object table number) numbers
    ∙ filter_twice (λ call. not (is_on number call)) (λ (call : Call). not (is_among numbers call.object)) (λ (call : Call). not (is_among (number ∷ numbers) call.object))
    (λ call. ap (λ b. not (b || is_among numbers call.object)) (same_number number call.object) ∙ neither (call.object == number) (is_among numbers call.object)) table.calls
