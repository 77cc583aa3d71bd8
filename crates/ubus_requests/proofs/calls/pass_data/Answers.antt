use Rattle.std.proofs.Common.{ℕ, ◌≡◌, List, Some, None, IfOk, sym, ap, subst, ◌∙◌}
use Rattle.std.specs.Prelude.{option_map}
use Rattle.std.specs.List.{find}
use Rattle.ubus_frames.specs.declared.frame.Frame.{Frame}
use Rattle.ubus_table.specs.Table.{Table}
use Rattle.ubus_table.specs.Frames.{Sent}
use Rattle.ubus_table.specs.Calls.{is_answered}
use Rattle.ubus_send.specs.Out.{out_of}
use Rattle.ubus_state.specs.declared.calls.OpenCall.{OpenCall}
use Rattle.ubus_state.specs.Calls.{call_of}
use Rattle.ubus_state.specs.State.{table_of}
use Rattle.ubus_requests.proofs.AnswerLemmas.{call_found, data_none, data_told}
use Rattle.ubus_requests.proofs.calls.pass_data.Goals as goal

pub returns-in-None : goal.returns-in-None
returns-in-None c =
    let table : Table = table_of c.args.bus.now in
    let client : ℕ = c.args.client in
    let frame : Frame = c.args.frame.now in
    let found : find (is_answered table client frame) table.calls ≡ None =
    call_found (is_answered table client frame) c.args.bus.now.calls.rows.items c.answered_call.result c.answered_call.ensures ∙ ap (option_map call_of) c.in-None.is in
    c.new.ensures ∙ sym (ap out_of (data_none table client frame found))

pub returns-in-Some : goal.returns-in-Some
returns-in-Some c =
    let table : Table = table_of c.args.bus.now in
    let client : ℕ = c.args.client in
    let frame : Frame = c.args.frame.now in
    let call : OpenCall = c.in-Some.call in
    let found : find (is_answered table client frame) table.calls ≡ Some (call_of call) =
    call_found (is_answered table client frame) c.args.bus.now.calls.rows.items c.answered_call.result c.answered_call.ensures ∙ ap (option_map call_of) c.in-Some.is in
    subst (λ (sent : List Sent). IfOk c.data_of.result (λ out. out ≡ out_of sent)) (sym (data_told table client frame (call_of call) found)) c.data_of.ensures
