use Rattle.std.specs.Prelude.{◌≢◌}
use Rattle.std.proofs.Common.{arith, ℕ, ◌≡◌, List, Option, None, IfOk, refl, sym, ap, ◌∙◌}
use Rattle.ubus_frames.specs.declared.frame.Frame.{Frame}
use Rattle.ubus_table.specs.Table.{Table}
use Rattle.ubus_table.specs.declared.rows.Client.{Client}
use Rattle.ubus_table.specs.Refusal.{Step, says, refuses, numbered}
use Rattle.ubus_table.specs.Asked.{pinged, looked_up, asked_for}
use Rattle.ubus_table.specs.Objects.{adds, removes}
use Rattle.ubus_table.specs.Subscriptions.{subscribes, unsubscribes}
use Rattle.ubus_table.specs.Calls.{notifies, passes_data, passes_status, answered}
use Rattle.ubus_table.specs.Invoked.{invokes}
use Rattle.ubus_send.specs.Fits.{fits}
use Rattle.ubus_state.specs.State.{table_of}
use Rattle.ubus_requests.proofs.PlanLemmas.{says_plan, planned_as, plan_for}
use Rattle.ubus_broker.proofs.KindLemmas.{by_kind, by_other, data_quiet, told_quiet}
use Rattle.ubus_broker.proofs.plans.plan_message.Goals as goal

pub returns-in-1 : goal.returns-in-1
returns-in-1 c =
    let table : Table = table_of c.args.bus.now in
    let client : Client = c.args.client.now in
    let request : Frame = c.args.message.now in
    let by : ℕ → Step = λ (kind : ℕ). by_kind kind (passes_status table client.number request) (passes_data fits table client.number request)
    (pinged fits table client.number request) (looked_up fits table client.number request) (invokes fits table client request)
    (adds fits table client request) (removes fits table client request) (subscribes fits table client request) (unsubscribes fits table client request)
    (notifies fits table client request) (refuses fits table client.number request (numbered 1)) in
    planned_as c.pass_status.result table _ _ c.pass_status.ensures (ap by c.in-1.is)

pub returns-in-2 : goal.returns-in-2
returns-in-2 c =
    let table : Table = table_of c.args.bus.now in
    let client : Client = c.args.client.now in
    let request : Frame = c.args.message.now in
    let by : ℕ → Step = λ (kind : ℕ). by_kind kind (passes_status table client.number request) (passes_data fits table client.number request)
    (pinged fits table client.number request) (looked_up fits table client.number request) (invokes fits table client request)
    (adds fits table client request) (removes fits table client request) (subscribes fits table client request) (unsubscribes fits table client request)
    (notifies fits table client request) (refuses fits table client.number request (numbered 1)) in
    planned_as c.plan_data.result table _ _ c.plan_data.ensures (ap by c.in-2.is)

pub returns-in-3 : goal.returns-in-3
returns-in-3 c =
    let table : Table = table_of c.args.bus.now in
    let client : Client = c.args.client.now in
    let request : Frame = c.args.message.now in
    let by : ℕ → Step = λ (kind : ℕ). by_kind kind (passes_status table client.number request) (passes_data fits table client.number request)
    (pinged fits table client.number request) (looked_up fits table client.number request) (invokes fits table client request)
    (adds fits table client request) (removes fits table client request) (subscribes fits table client request) (unsubscribes fits table client request)
    (notifies fits table client request) (refuses fits table client.number request (numbered 1)) in
    planned_as c.plan_ping.result table _ _ c.plan_ping.ensures (ap by c.in-3.is)

pub returns-in-4 : goal.returns-in-4
returns-in-4 c =
    let table : Table = table_of c.args.bus.now in
    let client : Client = c.args.client.now in
    let request : Frame = c.args.message.now in
    let by : ℕ → Step = λ (kind : ℕ). by_kind kind (passes_status table client.number request) (passes_data fits table client.number request)
    (pinged fits table client.number request) (looked_up fits table client.number request) (invokes fits table client request)
    (adds fits table client request) (removes fits table client request) (subscribes fits table client request) (unsubscribes fits table client request)
    (notifies fits table client request) (refuses fits table client.number request (numbered 1)) in
    planned_as c.plan_look_up.result table _ _ c.plan_look_up.ensures (ap by c.in-4.is)

pub returns-in-5 : goal.returns-in-5
returns-in-5 c =
    let table : Table = table_of c.args.bus.now in
    let client : Client = c.args.client.now in
    let request : Frame = c.args.message.now in
    let by : ℕ → Step = λ (kind : ℕ). by_kind kind (passes_status table client.number request) (passes_data fits table client.number request)
    (pinged fits table client.number request) (looked_up fits table client.number request) (invokes fits table client request)
    (adds fits table client request) (removes fits table client request) (subscribes fits table client request) (unsubscribes fits table client request)
    (notifies fits table client request) (refuses fits table client.number request (numbered 1)) in
    planned_as c.invoke.result table _ _ c.invoke.ensures (ap by c.in-5.is)

pub returns-in-6 : goal.returns-in-6
returns-in-6 c =
    let table : Table = table_of c.args.bus.now in
    let client : Client = c.args.client.now in
    let request : Frame = c.args.message.now in
    let by : ℕ → Step = λ (kind : ℕ). by_kind kind (passes_status table client.number request) (passes_data fits table client.number request)
    (pinged fits table client.number request) (looked_up fits table client.number request) (invokes fits table client request)
    (adds fits table client request) (removes fits table client request) (subscribes fits table client request) (unsubscribes fits table client request)
    (notifies fits table client request) (refuses fits table client.number request (numbered 1)) in
    planned_as c.add.result table _ _ c.add.ensures (ap by c.in-6.is)

pub returns-in-7 : goal.returns-in-7
returns-in-7 c =
    let table : Table = table_of c.args.bus.now in
    let client : Client = c.args.client.now in
    let request : Frame = c.args.message.now in
    let by : ℕ → Step = λ (kind : ℕ). by_kind kind (passes_status table client.number request) (passes_data fits table client.number request)
    (pinged fits table client.number request) (looked_up fits table client.number request) (invokes fits table client request)
    (adds fits table client request) (removes fits table client request) (subscribes fits table client request) (unsubscribes fits table client request)
    (notifies fits table client request) (refuses fits table client.number request (numbered 1)) in
    planned_as c.remove.result table _ _ c.remove.ensures (ap by c.in-7.is)

pub returns-in-8 : goal.returns-in-8
returns-in-8 c =
    let table : Table = table_of c.args.bus.now in
    let client : Client = c.args.client.now in
    let request : Frame = c.args.message.now in
    let by : ℕ → Step = λ (kind : ℕ). by_kind kind (passes_status table client.number request) (passes_data fits table client.number request)
    (pinged fits table client.number request) (looked_up fits table client.number request) (invokes fits table client request)
    (adds fits table client request) (removes fits table client request) (subscribes fits table client request) (unsubscribes fits table client request)
    (notifies fits table client request) (refuses fits table client.number request (numbered 1)) in
    planned_as c.subscribe.result table _ _ c.subscribe.ensures (ap by c.in-8.is)

pub returns-in-9 : goal.returns-in-9
returns-in-9 c =
    let table : Table = table_of c.args.bus.now in
    let client : Client = c.args.client.now in
    let request : Frame = c.args.message.now in
    let by : ℕ → Step = λ (kind : ℕ). by_kind kind (passes_status table client.number request) (passes_data fits table client.number request)
    (pinged fits table client.number request) (looked_up fits table client.number request) (invokes fits table client request)
    (adds fits table client request) (removes fits table client request) (subscribes fits table client request) (unsubscribes fits table client request)
    (notifies fits table client request) (refuses fits table client.number request (numbered 1)) in
    planned_as c.unsubscribe.result table _ _ c.unsubscribe.ensures (ap by c.in-9.is)

pub returns-in-10 : goal.returns-in-10
returns-in-10 c =
    let table : Table = table_of c.args.bus.now in
    let client : Client = c.args.client.now in
    let request : Frame = c.args.message.now in
    let by : ℕ → Step = λ (kind : ℕ). by_kind kind (passes_status table client.number request) (passes_data fits table client.number request)
    (pinged fits table client.number request) (looked_up fits table client.number request) (invokes fits table client request)
    (adds fits table client request) (removes fits table client request) (subscribes fits table client request) (unsubscribes fits table client request)
    (notifies fits table client request) (refuses fits table client.number request (numbered 1)) in
    planned_as c.notify.result table _ _ c.notify.ensures (ap by c.in-10.is)

pub returns-in_default : goal.returns-in_default
returns-in_default c =
    let table : Table = table_of c.args.bus.now in
    let client : Client = c.args.client.now in
    let request : Frame = c.args.message.now in
    let by : ℕ → Step = λ (kind : ℕ). by_kind kind (passes_status table client.number request) (passes_data fits table client.number request)
    (pinged fits table client.number request) (looked_up fits table client.number request) (invokes fits table client request)
    (adds fits table client request) (removes fits table client request) (subscribes fits table client request) (unsubscribes fits table client request)
    (notifies fits table client request) (refuses fits table client.number request (numbered 1)) in
    let n1 : request.kind ≢ 1 = omega arith in
    let n2 : request.kind ≢ 2 = omega arith in
    let n3 : request.kind ≢ 3 = omega arith in
    let n4 : request.kind ≢ 4 = omega arith in
    let n5 : request.kind ≢ 5 = omega arith in
    let n6 : request.kind ≢ 6 = omega arith in
    let n7 : request.kind ≢ 7 = omega arith in
    let n8 : request.kind ≢ 8 = omega arith in
    let n9 : request.kind ≢ 9 = omega arith in
    let n10 : request.kind ≢ 10 = omega arith in
    planned_as c.refuse.result table _ _ (c.refuse.ensures table None)
    (by_other request.kind (passes_status table client.number request) (passes_data fits table client.number request)
    (pinged fits table client.number request) (looked_up fits table client.number request) (invokes fits table client request)
    (adds fits table client request) (removes fits table client request) (subscribes fits table client request) (unsubscribes fits table client request)
    (notifies fits table client request) (refuses fits table client.number request (numbered 1)) n1 n2 n3 n4 n5 n6 n7 n8 n9 n10)
