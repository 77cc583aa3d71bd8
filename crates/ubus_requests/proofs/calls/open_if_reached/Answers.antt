use Rattle.std.proofs.Common.{ℕ, ◌≡◌, ◌++◌, ◌==◌, List, [], ◌∷◌, Option, Some, None, Bool, true, false, not, IfOk, OnOk, refl, sym, ap, subst, ◌∙◌, append-nil}
use Rattle.std.specs.Prelude.{◌&&◌, ◌||◌, if◌then◌else◌, codes, unwrap_or, remove}
use Rattle.std.specs.Option.{option_copied}
use Rattle.std.specs.List.{flat_map, position}
use Rattle.ubus_frames.specs.declared.frame.Frame.{Frame}
use Rattle.ubus_table.specs.Table.{Table, Call, object_of, owner_of, of_type, typed, path_of}
use Rattle.ubus_table.specs.declared.rows.Client.{Client}
use Rattle.ubus_table.specs.declared.rows.Object.{Object}
use Rattle.ubus_table.specs.declared.rows.Subscription.{Subscription}
use Rattle.ubus_table.specs.Frames.{Sent, with_data, where_fits, to_owner, answer, is_set, call_data}
use Rattle.ubus_table.specs.Refusal.{Step, Refusal, says, refuses, refused, refused_if_asked, numbered, denial}
use Rattle.ubus_table.specs.Objects.{removes_named, removes_found, object_data, new_object, object_left, without_object, lost_type, told}
use Rattle.ubus_table.specs.Subscriptions.{subscribes_named, subscribes_found, unsubscribes_named, is_alone, activity, without, subscribers_of}
use Rattle.ubus_table.specs.Calls.{notifies_named, notifies_found, refuses_notify, passed_on, opened, call_on, is_answered, told_subscribers, subscribers_told}
use Rattle.ubus_send.specs.declared.outbox.Outgoing.{Outgoing}
use Rattle.ubus_send.specs.Fits.{fits}
use Rattle.ubus_send.specs.Out.{out_of}
use Rattle.ubus_send.proofs.OutLemmas.{out_more}
use Rattle.ubus_state.specs.declared.calls.OpenCall.{OpenCall}
use Rattle.ubus_state.specs.Calls.{call_of, calls_of}
use Rattle.ubus_state.proofs.ListLemmas.{none_found, position_of_map}
use Rattle.ubus_state.specs.State.{table_of}
use Rattle.ubus_state.specs.Change.{changed}
use Rattle.ubus_state.specs.declared.change.Change.TheVariants.{Adds}
use Rattle.ubus_requests.specs.Plan.{Plans, notified_to}
use Rattle.ubus_requests.proofs.PlanLemmas.{taken, passed, says_plan, planned_as, plan_for}
use Rattle.ubus_requests.proofs.OpenedLemmas.{opened_one, opened_none}
use Rattle.ubus_requests.proofs.calls.open_if_reached.Goals as goal

pub returns-then-is_opened : goal.returns-then-is_opened
returns-then-is_opened c = λ table zero is.
    subst (λ (calls : List Call). OnOk c.add_call.result (calls_of c.add_call.new.calls.items ≡ calls_of c.args.calls.now.items ++ calls))
    (ap (λ (call : Call). call ∷ []) (c.call_on.ensures table zero)
    ∙ sym (opened_one fits table c.args.client.now c.args.request.now c.args.object (ap (λ (frame : Frame). not (is_set c.args.request.now.no_reply) && fits frame) (sym is) ∙ sym c.if-is_opened.ensures)))
    c.add_call.ensures

pub returns : goal.returns
returns c = λ table zero is.
    sym (ap (λ (calls : List Call). calls_of c.args.calls.now.items ++ calls)
    (opened_none fits table c.args.client.now c.args.request.now c.args.object (ap (λ (frame : Frame). not (is_set c.args.request.now.no_reply) && fits frame) (sym is) ∙ sym c.if-is_opened.ensures))
    ∙ append-nil (calls_of c.args.calls.now.items))
