use Rattle.std.proofs.Common.{Bool, ap, ◌∙◌}
use Rattle.std.specs.Prelude.{◌&&◌}
use Rattle.std.specs.List.{find}
use Rattle.ubus_table.specs.Table.{is_owned}
use Rattle.ubus_table.specs.Calls.{is_answered, is_of}
use Rattle.ubus_state.specs.declared.calls.OpenCall.{OpenCall}
use Rattle.ubus_state.specs.Calls.{call_of, has_name}
use Rattle.ubus_state.proofs.PlaceLemmas.{find_among}
use Rattle.ubus_state.specs.State.{table_of}
use Rattle.ubus_requests.proofs.calls.answered_call.Goals as goal

pub loop-call-init : goal.loop-call-init
loop-call-init c =
    let table = table_of c.args.bus.now in
    let frame = c.args.frame.now in
    let passes : OpenCall → Bool = λ call. is_answered table c.args.client frame (call_of call) in
    ap (find passes) (c.into_iter-call-iterator.ensures.into_iter_gives ∙ c.named-call-items.ensures)
    ∙ find_among passes (has_name frame.peer frame.seq) c.args.bus.now.calls.rows.items
    (λ call other. ap (λ (b : Bool). b && (is_of frame.id (call_of call) && is_owned table call.object c.args.client)) other)
