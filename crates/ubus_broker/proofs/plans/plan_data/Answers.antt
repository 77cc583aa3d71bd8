use Rattle.std.proofs.Common.{ℕ, ◌≡◌, List, Option, None, IfOk, refl, sym, ap, ◌∙◌}
use Rattle.ubus_frames.specs.declared.frame.Frame.{Frame}
use Rattle.ubus_table.specs.Table.{Table}
use Rattle.ubus_table.specs.declared.rows.Client.{Client}
use Rattle.ubus_table.specs.Refusal.{Step, says, refuses, numbered}
use Rattle.ubus_table.specs.Asked.{pinged, looked_up, asked_for}
use Rattle.ubus_table.specs.Objects.{adds, removes}
use Rattle.ubus_table.specs.Subscriptions.{subscribes, unsubscribes}
use Rattle.ubus_table.specs.Calls.{notifies, passes_data, passes_status, answered}
use Rattle.ubus_table.specs.Invoked.{invokes}
use Rattle.ubus_send.specs.Fits.{fits}
use Rattle.ubus_state.specs.State.{table_of}
use Rattle.ubus_requests.proofs.PlanLemmas.{says_plan, planned_as, plan_for}
use Rattle.ubus_broker.proofs.KindLemmas.{by_kind, by_other, data_quiet, told_quiet}
use Rattle.ubus_broker.proofs.plans.plan_data.Goals as goal

pub returns : goal.returns
returns c =
    let table : Table = table_of c.args.bus.now in
    let step : Step = passes_data fits table c.args.client c.args.message.now in
    plan_for _ (says table step.sent) table _ (data_quiet table c.args.message.now (answered table c.args.client c.args.message.now)) (says_plan table step.sent c.in_ok-out.out c.says.result c.says.ensures c.in_ok-out.ensures)
