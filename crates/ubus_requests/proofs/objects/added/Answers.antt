use Rattle.std.proofs.Common.{ℕ, ◌≡◌, ◌++◌, ◌==◌, List, [], ◌∷◌, Option, Some, None, Bool, true, false, not, IfOk, OnOk, refl, sym, ap, subst, ◌∙◌, append-nil}
use Rattle.std.specs.Prelude.{◌&&◌, ◌||◌, if◌then◌else◌, codes, unwrap_or, remove}
use Rattle.std.specs.Option.{option_copied}
use Rattle.std.specs.List.{flat_map, position}
use Rattle.ubus_frames.specs.declared.frame.Frame.{Frame}
use Rattle.ubus_table.specs.Table.{Table, Call, object_of, owner_of, of_type, typed, path_of}
use Rattle.ubus_table.specs.declared.rows.Client.{Client}
use Rattle.ubus_table.specs.declared.rows.Object.{Object}
use Rattle.ubus_table.specs.declared.rows.Subscription.{Subscription}
use Rattle.ubus_table.specs.Frames.{Sent, with_data, where_fits, to_owner, answer, is_set, call_data}
use Rattle.ubus_table.specs.Refusal.{Step, Refusal, says, refuses, refused, refused_if_asked, numbered, denial}
use Rattle.ubus_table.specs.Objects.{removes_named, removes_found, object_data, new_object, object_left, without_object, lost_type, told}
use Rattle.ubus_table.specs.Subscriptions.{subscribes_named, subscribes_found, unsubscribes_named, is_alone, activity, without, subscribers_of}
use Rattle.ubus_table.specs.Calls.{notifies_named, notifies_found, refuses_notify, passed_on, opened, call_on, is_answered, told_subscribers, subscribers_told}
use Rattle.ubus_send.specs.declared.outbox.Outgoing.{Outgoing}
use Rattle.ubus_send.specs.Fits.{fits}
use Rattle.ubus_send.specs.Out.{out_of}
use Rattle.ubus_send.proofs.OutLemmas.{out_more}
use Rattle.ubus_state.specs.declared.calls.OpenCall.{OpenCall}
use Rattle.ubus_state.specs.Calls.{call_of, calls_of}
use Rattle.ubus_state.specs.Paths.{IsFree}
use Rattle.ubus_state.proofs.ListLemmas.{none_found, position_of_map}
use Rattle.ubus_state.specs.State.{table_of}
use Rattle.ubus_state.specs.Change.{changed}
use Rattle.ubus_state.specs.declared.change.Change.TheVariants.{Adds}
use Rattle.ubus_requests.specs.Plan.{Plans, notified_to}
use Rattle.ubus_requests.proofs.PlanLemmas.{taken, passed, says_plan, planned_as, plan_for}
use Rattle.ubus_requests.proofs.objects.added.Goals as goal

pub returns : goal.returns
returns c =
    let table : Table = table_of c.args.bus.now in
    let client : Client = c.args.client.now in
    let request : Frame = c.args.request.now in
    record {
      table = ap (λ (object : Object). changed table (Adds object)) c.in_ok-object.ensures;
      sent = c.in_ok-out.ensures ∙ ap (λ (object : Object). out_of (with_data fits client.number request (object_data request object.number (Some object.objtype) ∷ []))) c.in_ok-object.ensures;
      handed = refl;
      possible = (ap (λ (object : Object). object.number) c.in_ok-object.ensures, subst (λ (object : Object). IsFree object.path table.objects) (sym c.in_ok-object.ensures) c.requires.free);
    }
