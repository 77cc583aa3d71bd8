use Rattle.std.proofs.Common.{ℕ, ◌≡◌, ◌++◌, ◌+◌, ◌<◌, List, [], sym, ap, ◌∙◌, length, take, get_or, append-nil, arith, rules}
use Rattle.std.specs.Prelude.{◌≤◌, filter, not}
use Rattle.std.proofs.lemmas.List.{take_all, drop_all}
use Rattle.ubus_table.specs.Table.{Table, Call}
use Rattle.ubus_table.specs.declared.rows.Subscription.{Subscription}
use Rattle.ubus_table.specs.Frames.{Sent}
use Rattle.ubus_table.specs.Refusal.{Step}
use Rattle.ubus_table.specs.Objects.{object_left, is_on, without_object}
use Rattle.ubus_table.specs.Clients.{is_forgotten, objects_left, without_client, numbers_of}
use Rattle.ubus_send.specs.declared.outbox.Outgoing.{Outgoing}
use Rattle.ubus_send.specs.Fits.{fits}
use Rattle.ubus_send.specs.Out.{out_of}
use Rattle.ubus_state.specs.declared.calls.OpenCall.{OpenCall}
use Rattle.ubus_state.specs.Calls.{call_of, calls_of}
use Rattle.ubus_state.specs.Among.{calls_but}
use Rattle.ubus_state.proofs.ListLemmas.{filter_of_map}
use Rattle.ubus_state.specs.State.{table_of}
use Rattle.ubus_state.specs.Leaving.{partly, all_left}
use Rattle.ubus_state.proofs.AllLeftLemmas.{leave_first, leave_next, leave_table, leave_sent, calls_left}
use Rattle.ubus_state.proofs.bus.Bus.leaving.Goals as goal

pub loop-place-init : goal.loop-place-init
loop-place-init c =
    let table : Table = table_of c.args.self.now in
    let numbers : List ℕ = c.in_ok-numbers.numbers.items in
    let subscriptions : List Subscription = c.in_ok-subscriptions.subscriptions in
    let calls : List Call = calls_of c.forget_calls.new.calls.items in
    let kept : calls ≡ (without_client table c.args.client).calls =
    ap calls_of c.forget_calls.ensures
    ∙ sym (filter_of_map (λ call. not (is_forgotten c.args.client call)) call_of c.in_ok-calls.calls.items)
    ∙ ap (λ (cs : List OpenCall). filter (λ call. not (is_forgotten c.args.client call)) (calls_of cs)) (c.in_ok-calls.ensures.items ∙ c.deref.ensures.value) in
    let all : objects_left fits (partly (without_client table c.args.client) [] subscriptions calls) numbers ≡ all_left table c.args.client =
    leave_first table c.args.client numbers subscriptions calls c.in_ok-numbers.ensures c.in_ok-subscriptions.ensures kept in
    record {
      table = ap (λ (step : Step). step.table) all;
      sent =
          ap (λ (out : List Outgoing). out ++ out_of (objects_left fits (partly (without_client table c.args.client) [] subscriptions calls) numbers).sent) c.new-out.ensures
          ∙ ap (λ (step : Step). out_of step.sent) all;
    }

pub loop-place-preserved : goal.loop-place-preserved
loop-place-preserved c =
    let start : Table = without_client (table_of c.args.self.now) c.args.client in
    let numbers : List ℕ = c.in_ok-numbers.numbers.items in
    let k : ℕ = c.loop-place.place in
    let number : ℕ = c.index-number.result.now in
    let subscriptions : List Subscription = c.loop-place.subscriptions in
    let calls : List OpenCall = c.loop-place.calls.items in
    let later : List Subscription = c.drop_touching.new.self in
    let still : List Call = calls_of c.drop_calls_on.new.calls.items in
    let now : Table = partly start (take k numbers) subscriptions (calls_of calls) in
    let next : Table = partly start (take (k + 1) numbers) later still in
    let within : k < length numbers = omega arith in
    let is : number ≡ get_or numbers k number = search rules in
    let dropped : still ≡ filter (λ call. not (is_on number call)) (calls_of calls) =
    ap calls_of c.drop_calls_on.ensures ∙ sym (filter_of_map (λ call. not (is_on number call)) call_of calls) in
    let made : without_object now number ≡ next = leave_next start numbers k number subscriptions later (calls_of calls) still within is c.drop_touching.ensures dropped in
    let told_with : List ℕ → List OpenCall → List Sent =
    λ ns cs. (object_left fits (partly (table_of c.args.self.now) (take k ns) subscriptions (calls_of cs)) number).sent in
    let same : told_with c.deref-in-loop-place.result.now c.deref-in-loop-place-2.result.now ≡ (object_left fits now number).sent =
    ap (λ (ns : List ℕ). told_with ns c.deref-in-loop-place-2.result.now) c.deref-in-loop-place.ensures.value
    ∙ ap (told_with numbers) c.deref-in-loop-place-2.ensures.value in
    let told : c.tell_left_of.new.out ≡ c.loop-place.out ++ out_of (object_left fits now number).sent =
    c.in_ok-tell_left_of.ensures ∙ ap (λ (sent : List Sent). c.loop-place.out ++ out_of sent) same in
    record {
      table = sym (leave_table now next numbers k number within is made) ∙ c.loop-place.invariant.table;
      sent = leave_sent now next numbers k number c.loop-place.out c.tell_left_of.new.out within is made told ∙ c.loop-place.invariant.sent;
    }

pub returns : goal.returns
returns c =
    let table : Table = table_of c.args.self.now in
    let start : Table = without_client table c.args.client in
    let numbers : List ℕ = c.in_ok-numbers.numbers.items in
    let subscriptions : List Subscription = c.loop-place.subscriptions in
    let calls : List Call = calls_of c.loop-place.calls.items in
    let over : length numbers ≤ c.loop-place.place = omega arith in
    let now : Table = partly start (take c.loop-place.place numbers) subscriptions calls in
    let all : partly start numbers subscriptions calls ≡ (all_left table c.args.client).table =
    ap (λ (ns : List ℕ). partly start ns subscriptions calls) (sym (take_all c.loop-place.place numbers over))
    ∙ sym (ap (λ (ns : List ℕ). (objects_left fits now ns).table) (drop_all c.loop-place.place numbers over))
    ∙ c.loop-place.invariant.table in
    let left : calls ≡ calls_but numbers start.calls =
    ap (λ (t : Table). t.calls) all ∙ calls_left start (numbers_of table c.args.client) ∙ ap (λ (ns : List ℕ). calls_but ns start.calls) (sym c.in_ok-numbers.ensures) in
    record {
      table = ap (λ (cs : List Call). partly start numbers subscriptions cs) (sym left) ∙ all;
      sent =
          sym (append-nil c.loop-place.out)
          ∙ sym (ap (λ (ns : List ℕ). c.loop-place.out ++ out_of (objects_left fits now ns).sent) (drop_all c.loop-place.place numbers over))
          ∙ c.loop-place.invariant.sent;
    }
