use Rattle.std.proofs.Common.{ℕ, ◌≡◌, ◌+◌, ◌++◌, ◌==◌, List, [], ◌∷◌, Option, Some, None, Bool, true, false, not, IfOk, OnOk, get_or, refl, sym, ap, subst, ◌∙◌, rules}
use Rattle.std.specs.Prelude.{◌&&◌, if◌then◌else◌, filter, remove}
use Rattle.std.specs.Option.{option_copied}
use Rattle.std.specs.List.{list_any, position}
use Rattle.std.proofs.lemmas.Fn.{filter_same}
use Rattle.blob_codec.specs.declared.blob.Attr.{Attr}
use Rattle.ubus_frames.specs.declared.frame.Frame.{Frame}
use Rattle.ubus_table.specs.Table.{Table, Call, client_of, is_connected}
use Rattle.ubus_table.specs.declared.rows.Client.{Client}
use Rattle.ubus_table.specs.Frames.{Sent, where_fits, plain, hello}
use Rattle.ubus_table.specs.Refusal.{Step, says}
use Rattle.ubus_table.specs.Objects.{told}
use Rattle.ubus_table.specs.Clients.{is_handed_out, reply_sent, reply_status}
use Rattle.ubus_table.specs.Served.{served, said_by, connect, frame, leave, local_reply}
use Rattle.ubus_send.specs.declared.outbox.Outgoing.{Outgoing}
use Rattle.ubus_send.specs.Fits.{fits}
use Rattle.ubus_send.specs.Out.{outgoing, out_of}
use Rattle.ubus_send.proofs.OutLemmas.{out_more}
use Rattle.ubus_state.specs.declared.calls.OpenCall.{OpenCall}
use Rattle.ubus_state.specs.Calls.{call_of, calls_of}
use Rattle.ubus_state.proofs.ListLemmas.{list_any_map, position_of_map, remove_of_map}
use Rattle.ubus_state.specs.State as state
use Rattle.ubus_requests.proofs.PlanLemmas.{taken, passed, says_plan, planned_as, plan_for}
use Rattle.ubus_requests.proofs.AnswerLemmas.{call_at}
use Rattle.ubus_broker.specs.Did.{table_of, Did}
use Rattle.ubus_broker.proofs.DidLemmas.{did_counted, connect_did, leave_did, reply_did, no_reply_did, not_false}
use Rattle.ubus_broker.proofs.broker.to_others.Goals as goal

pub returns : goal.returns
returns c =
    let kept = filter_same _ _ _ (λ x b f' k. search rules) _ _ c.retain.ensures.filtered in
    c.from_vec.ensures ∙ kept ∙ ap (filter (λ (sent : Outgoing). not (sent.client == c.args.client))) c.into_vec-sent.ensures
