use Rattle.std.proofs.Common.{ℕ, ℤ, ◌≡◌, ◌++◌, ◌==◌, List, [], ◌∷◌, Option, Some, None, Bool, true, false, not, IfOk, OnOk, refl, sym, ap, subst, ◌∙◌}
use Rattle.std.specs.Prelude.{◌&&◌, ◌||◌, if◌then◌else◌, codes, unwrap_or}
use Rattle.std.specs.Option.{option_copied}
use Rattle.std.specs.List.{flat_map, list_any}
use Rattle.blob_codec.specs.declared.blob.Attr.{Attr}
use Rattle.ubus_frames.specs.declared.frame.Frame.{Frame}
use Rattle.ubus_table.specs.Table.{Table, Call, object_of, owner_of, path_of, same_text}
use Rattle.ubus_table.specs.declared.rows.Client.{Client}
use Rattle.ubus_table.specs.declared.rows.Object.{Object}
use Rattle.ubus_table.specs.declared.rows.Registration.{Registration}
use Rattle.ubus_table.specs.Frames.{Sent, where_fits, to_owner, is_set}
use Rattle.ubus_table.specs.Refusal.{Step, Refusal, says, refused_if_asked, numbered, denial}
use Rattle.ubus_table.specs.declared.rows.LocalCall.{LocalCall}
use Rattle.ubus_table.specs.Arguments.{number_argument, text_argument, table_argument}
use Rattle.ubus_table.specs.Events.{Event, bad, registered, event, event_of, registers_with, registers_found, sends_with, same_registration, event_frame, events_sent, listeners}
use Rattle.ubus_table.specs.Calls.{passed_on, call_on}
use Rattle.ubus_table.specs.Invoked.{Way, refusal, registration, sends, forwards, hands_out, goes, event_way, named_way, object_way, open_way, done, with_call}
use Rattle.ubus_send.specs.declared.outbox.Outgoing.{Outgoing}
use Rattle.ubus_send.specs.Fits.{fits}
use Rattle.ubus_send.specs.Out.{out_of}
use Rattle.ubus_send.proofs.OutLemmas.{out_more}
use Rattle.ubus_state.specs.Calls.{call_of, calls_of}
use Rattle.ubus_state.specs.State.{table_of}
use Rattle.ubus_state.specs.Change.{changed}
use Rattle.ubus_requests.specs.Plan.{Plans}
use Rattle.ubus_requests.proofs.PlanLemmas.{taken, passed, says_plan, planned_as, plan_for}
use Rattle.ubus_requests.proofs.WayLemmas.{way_event, way_denied, way_open, way_free, open_local, open_long, open_short, event_register, event_send, event_unknown, own_denied, own_unheard, own_heard, send_heard, send_denied}
use Rattle.ubus_requests.proofs.invoked.pass_on_frame.Goals as goal

pub returns-then-is_too_long : goal.returns-then-is_too_long
returns-then-is_too_long c =
    let table : Table = table_of c.args.bus.now in
    let client : Client = c.args.client.now in
    let request : Frame = c.args.request.now in
    planned_as c.refuse_if_asked.result table _ _ (c.refuse_if_asked.ensures table (Some 0))
    (ap (goes fits table client request) (open_long fits client request c.args.object.now c.requires.owned (ap (λ (frame : Frame). not (is_set request.no_reply) && not (fits frame)) (sym c.requires.frame) ∙ sym c.if-is_too_long.ensures)))

pub returns : goal.returns
returns c =
    let table : Table = table_of c.args.bus.now in
    let client : Client = c.args.client.now in
    let request : Frame = c.args.request.now in
    planned_as c.forward.result table _ _ c.forward.ensures
    (ap (goes fits table client request) (open_short fits client request c.args.object.now c.requires.owned (ap (λ (frame : Frame). not (is_set request.no_reply) && not (fits frame)) (sym c.requires.frame) ∙ sym c.if-is_too_long.ensures)))
