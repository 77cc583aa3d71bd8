use Rattle.std.proofs.Common.{ℕ, ◌≡◌, [], Some, sym, ◌∙◌}
use Rattle.std.specs.List.{position}
use Rattle.ubus_frames.specs.declared.frame.Frame.{Frame}
use Rattle.ubus_table.specs.Table.{Table}
use Rattle.ubus_table.specs.Refusal.{says}
use Rattle.ubus_table.specs.Calls.{is_answered}
use Rattle.ubus_state.specs.declared.calls.OpenCall.{OpenCall}
use Rattle.ubus_state.specs.Calls.{call_of}
use Rattle.ubus_state.specs.State.{table_of}
use Rattle.ubus_requests.proofs.PlanLemmas.{says_plan, planned_as, plan_for}
use Rattle.ubus_requests.proofs.AnswerLemmas.{call_at, status_none, status_told}
use Rattle.std.proofs.Common.{get_or}
use Rattle.ubus_requests.proofs.calls.pass_status.Goals as goal

pub returns-in-None : goal.returns-in-None
returns-in-None c =
    let table : Table = table_of c.args.bus.now in
    let client : ℕ = c.args.client in
    let frame : Frame = c.args.frame.now in
    plan_for _ (says table []) table _ (status_none table client frame (sym c.answered.ensures.place ∙ c.in-None.is)) (says_plan table [] c.new.result c.says.result c.says.ensures c.new.ensures)

pub returns-in-Some : goal.returns-in-Some
returns-in-Some c =
    let table : Table = table_of c.args.bus.now in
    let client : ℕ = c.args.client in
    let frame : Frame = c.args.frame.now in
    let call : OpenCall = c.index-call.result.now in
    let at : position (is_answered table client frame) table.calls ≡ Some c.in-Some.place = sym c.answered.ensures.place ∙ c.in-Some.is in
    let is : call_of call ≡ get_or table.calls c.in-Some.place (call_of call) = call_at c.args.bus.now.calls.rows.items c.in-Some.place call c.index-call.ensures in
    planned_as c.status_of.result table _ _ (c.status_of.ensures table) (status_told table client frame c.in-Some.place (call_of call) at is)
