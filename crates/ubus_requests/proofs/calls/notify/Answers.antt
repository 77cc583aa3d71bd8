use Rattle.std.proofs.Common.{ℕ, ◌≡◌, ◌++◌, ◌==◌, List, [], ◌∷◌, Option, Some, None, Bool, true, false, not, IfOk, OnOk, refl, sym, ap, subst, ◌∙◌, append-nil}
use Rattle.std.specs.Prelude.{◌&&◌, ◌||◌, if◌then◌else◌, codes, unwrap_or, remove}
use Rattle.std.specs.Option.{option_copied}
use Rattle.std.specs.List.{flat_map, position}
use Rattle.ubus_frames.specs.declared.frame.Frame.{Frame}
use Rattle.ubus_table.specs.Table.{Table, Call, object_of, owner_of, of_type, typed, path_of}
use Rattle.ubus_table.specs.declared.rows.Client.{Client}
use Rattle.ubus_table.specs.declared.rows.Object.{Object}
use Rattle.ubus_table.specs.declared.rows.Subscription.{Subscription}
use Rattle.ubus_table.specs.Frames.{Sent, with_data, where_fits, to_owner, answer, is_set, call_data}
use Rattle.ubus_table.specs.Refusal.{Step, Refusal, says, refuses, refused, refused_if_asked, numbered, denial}
use Rattle.ubus_table.specs.Objects.{removes_named, removes_found, object_data, new_object, object_left, without_object, lost_type, told}
use Rattle.ubus_table.specs.Subscriptions.{subscribes_named, subscribes_found, unsubscribes_named, is_alone, activity, without, subscribers_of}
use Rattle.ubus_table.specs.Calls.{notifies_named, notifies_found, refuses_notify, passed_on, opened, call_on, is_answered, told_subscribers, subscribers_told}
use Rattle.ubus_send.specs.declared.outbox.Outgoing.{Outgoing}
use Rattle.ubus_send.specs.Fits.{fits}
use Rattle.ubus_send.specs.Out.{out_of}
use Rattle.ubus_send.proofs.OutLemmas.{out_more}
use Rattle.ubus_state.specs.declared.calls.OpenCall.{OpenCall}
use Rattle.ubus_state.specs.Calls.{call_of, calls_of}
use Rattle.ubus_state.proofs.ListLemmas.{none_found, position_of_map}
use Rattle.ubus_state.specs.State.{table_of}
use Rattle.ubus_state.specs.Change.{changed}
use Rattle.ubus_state.specs.declared.change.Change.TheVariants.{Adds}
use Rattle.ubus_requests.specs.Plan.{Plans, notified_to}
use Rattle.ubus_requests.proofs.PlanLemmas.{taken, passed, says_plan, planned_as, plan_for}
use Rattle.ubus_requests.proofs.calls.notify.Goals as goal

pub returns-in-None : goal.returns-in-None
returns-in-None c =
    let table : Table = table_of c.args.bus.now in
    let client : Client = c.args.client.now in
    let request : Frame = c.args.request.now in
    planned_as c.refuse_if_asked.result table _ _ (c.refuse_if_asked.ensures table None)
    (ap (λ (id : Option ℕ). notifies_named fits table client request id request.method) c.in-None.is)

pub returns-in-Some : goal.returns-in-Some
returns-in-Some c =
    let table : Table = table_of c.args.bus.now in
    let client : Client = c.args.client.now in
    let request : Frame = c.args.request.now in
    planned_as c.notify_named.result table _ _ c.notify_named.ensures
    (ap (λ (id : Option ℕ). notifies_named fits table client request id request.method) c.in-Some.is)
