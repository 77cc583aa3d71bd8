use Rattle.std.proofs.Common.{◌==◌, Bool, ap, ◌∙◌}
use Rattle.std.specs.Prelude.{◌&&◌}
use Rattle.std.specs.List.{find}
use Rattle.ubus_table.specs.Table.{is_local}
use Rattle.ubus_table.specs.Clients.{is_handed_out}
use Rattle.ubus_state.specs.declared.calls.OpenCall.{OpenCall}
use Rattle.ubus_state.specs.Calls.{call_of, has_name}
use Rattle.ubus_state.proofs.PlaceLemmas.{find_among}
use Rattle.ubus_state.proofs.call_rows.CallRows.handed_out_call.Goals as goal

pub loop-call-init : goal.loop-call-init
loop-call-init c =
    let passes : OpenCall → Bool = λ call. is_handed_out c.args.caller c.args.seq c.args.object (call_of call) in
    ap (find passes) (c.into_iter-call-iterator.ensures.into_iter_gives ∙ c.named-call-items.ensures)
    ∙ find_among passes (has_name c.args.caller c.args.seq) c.args.self.now.rows.items
    (λ call other. ap (λ (b : Bool). b && (call.object == c.args.object && is_local c.args.object)) other)
